use Rattle.bson_base.specs.Scalars.{millis_of}
use Rattle.bson_base.proofs.DateTextLemmas.{date_text-is}
use Rattle.bson_model.proofs.extjson.ser.date_text.Goals as goal

pub returns-in-Ok : goal.returns-in-Ok
returns-in-Ok c = date_text-is (millis_of c.args.moment) _ (c.in-Ok.ensures.text)

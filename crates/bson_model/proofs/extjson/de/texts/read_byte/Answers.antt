use Rattle.std.proofs.Common.{◌∙◌, ap, sym}
use Rattle.bson_model.proofs.JsonTextsLemmas.{byte_read, byte_told}
use Rattle.bson_model.proofs.extjson.de.texts.read_byte.Goals as goal

pub returns-in-Ok : goal.returns-in-Ok
returns-in-Ok c = ap byte_told (sym c.in-Ok.is ∙ c.from_hex.ensures) ∙ byte_read c.args.text.now

pub returns-in-Err : goal.returns-in-Err
returns-in-Err c = ap byte_told (sym c.in-Err.is ∙ c.from_hex.ensures) ∙ byte_read c.args.text.now

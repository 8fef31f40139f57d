use Rattle.bson_model.specs.declared.extjson.ser.Mode.TheVariants.{Relaxed}
use Rattle.bson_json.proofs.TextBackLemmas.{comes_back}
use Rattle.bson_json.proofs.laws.relaxed_texts_read_back.Goals as goal

pub returns : goal.returns
returns c = comes_back Relaxed

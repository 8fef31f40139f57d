use Rattle.bson_model.specs.declared.extjson.ser.Mode.TheVariants.{Canonical}
use Rattle.bson_json.proofs.TextBackLemmas.{comes_back}
use Rattle.bson_json.proofs.laws.canonical_texts_read_back.Goals as goal

pub returns : goal.returns
returns c = comes_back Canonical

use Rattle.bson_meaning.proofs.PlainLemmas.{normal_clean}
use Rattle.bson_meaning.proofs.laws.normal_forms_are_clean.Goals as goal

pub returns : goal.returns
returns c = normal_clean

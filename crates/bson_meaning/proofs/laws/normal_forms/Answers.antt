use Rattle.bson_meaning.proofs.NowLemmas.{twice, same_norm}
use Rattle.bson_meaning.proofs.laws.normal_forms.Goals as goal

pub returns : goal.returns
returns c = record { twice = twice; same = same_norm }

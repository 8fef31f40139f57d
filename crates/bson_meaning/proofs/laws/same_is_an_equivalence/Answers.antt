use Rattle.bson_meaning.proofs.NowLemmas.{same_itself, same_back, same_on}
use Rattle.bson_meaning.proofs.laws.same_is_an_equivalence.Goals as goal

pub returns : goal.returns
returns c = record { itself = same_itself; back = same_back; on = same_on }

use Rattle.bson_raw.proofs.WalkLemmas.{fault_is_last}
use Rattle.bson_raw.proofs.laws.fault_comes_last.Goals as goal

pub returns : goal.returns
returns c = fault_is_last

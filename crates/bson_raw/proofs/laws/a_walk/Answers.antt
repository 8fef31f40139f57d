use Rattle.bson_raw.proofs.WalkLemmas.{a_walk}
use Rattle.bson_raw.proofs.laws.a_walk.Goals as goal

pub returns : goal.returns
returns c = a_walk c.frame_or_fault.ensures

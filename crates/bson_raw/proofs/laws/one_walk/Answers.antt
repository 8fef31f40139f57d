use Rattle.bson_raw.proofs.WalkLemmas.{walk_is_one}
use Rattle.bson_raw.proofs.laws.one_walk.Goals as goal

pub returns : goal.returns
returns c = walk_is_one c.one_first_frame.ensures c.one_structural_fault.ensures

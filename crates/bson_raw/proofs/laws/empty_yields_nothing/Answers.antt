use Rattle.std.proofs.Common.{drop}
use Rattle.bson_raw.proofs.WalkLemmas.{empty_walk, no_items}
use Rattle.bson_raw.proofs.laws.empty_yields_nothing.Goals as goal

pub returns : goal.returns
returns c = λ bytes elements fault w. (empty_walk (drop 4 bytes) elements fault w, no_items (drop 4 bytes) elements fault w)

use Rattle.std.proofs.Common.{◌≡◌, take}
use Rattle.bson_pairs.specs.Keyed.{key_bytes}
use Rattle.bson_pairs.specs.Index.{index_of, seen_places}
use Rattle.bson_pairs.proofs.growing_keys.tree_of.Given as goal

abbrev pub invariant-loop-place : goal.invariant-loop-place
invariant-loop-place l = seen_places l.tree.entries ≡ index_of (key_bytes (take l.place l.texts))

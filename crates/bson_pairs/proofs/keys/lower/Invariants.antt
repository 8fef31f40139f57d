use Rattle.std.proofs.Common.{◌≡◌, ◌++◌, map, take, drop}
use Rattle.bson_pairs.specs.Index.{place_without}
use Rattle.bson_pairs.proofs.keys.lower.Given as goal

abbrev pub invariant-loop-i : goal.invariant-loop-i
invariant-loop-i l = l.order ≡ map (place_without l.taken) (take l.i l.initial.order) ++ drop l.i l.initial.order

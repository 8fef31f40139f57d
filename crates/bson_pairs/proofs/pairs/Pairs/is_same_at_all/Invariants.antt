use Rattle.std.proofs.Common.{◌≡◌, true, take, string_bytes}
use Rattle.std.specs.List.{list_all}
use Rattle.bson_pairs.specs.Same.{same_at}
use Rattle.bson_pairs.proofs.pairs.Pairs.is_same_at_all.Given as goal

abbrev pub invariant-loop-place : goal.invariant-loop-place
invariant-loop-place g l = list_all (λ k. same_at g.V.PartialEq.eq l.self l.other (string_bytes k)) (take l.place l.keys) ≡ true

use Rattle.std.proofs.Common.{◌≡◌, true, take, string_bytes}
use Rattle.std.specs.List.{list_all}
use Rattle.bson_pairs.specs.Keyed.{has_key}
use Rattle.bson_pairs.proofs.pairs.Pairs.has_all.Given as goal

abbrev pub invariant-loop-place : goal.invariant-loop-place
invariant-loop-place g l = list_all (λ k. has_key (string_bytes k) l.self) (take l.place l.keys) ≡ true

use Rattle.std.proofs.Common.{◌≡◌}
use Rattle.std.specs.List.{fold, flat_map}
use Rattle.bson_pairs.specs.Ascending.{pair_writes, pairs_writes}
use Rattle.bson_pairs.proofs.compared.PairsHash.hash.Given as goal

abbrev pub invariant-loop-key : goal.invariant-loop-key
invariant-loop-key g l = fold g.H.Hasher.write l.state (flat_map (pair_writes g.V.Hash.hash_input) l.key-iterator) ≡ fold g.H.Hasher.write l.initial.state (pairs_writes g.V.Hash.hash_input l.self)

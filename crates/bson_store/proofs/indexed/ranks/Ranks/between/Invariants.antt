use Rattle.std.proofs.Common.{◌≡◌, ◌++◌}
use Rattle.bson_store.proofs.RankedLemmas.{places_in}
use Rattle.bson_store.proofs.indexed.ranks.Ranks.between.Given as goal

abbrev pub invariant-loop-key : goal.invariant-loop-key
invariant-loop-key l = l.places.items ++ places_in l.key-iterator ≡ places_in l.initial.key-iterator

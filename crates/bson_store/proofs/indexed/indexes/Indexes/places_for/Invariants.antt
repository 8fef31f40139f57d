use Rattle.std.proofs.Common.{ℕ, ℤ, List, drop}
use Rattle.bson_store.specs.Fronts.{Passes}
use Rattle.bson_store.specs.Find.{Finds, FindEach}
use Rattle.bson_store.proofs.ServingLemmas.{IsBest}
use Rattle.bson_store.proofs.indexed.indexes.Indexes.places_for.Given as goal

abbrev pub invariant-loop-index : goal.invariant-loop-index
invariant-loop-index l = record {
  best : IsBest l.self l.coll (Passes l.front) l.best;
  left : (p : ℤ) (b : List ℕ) → Finds l.self l.coll p b → FindEach (drop l.index-index l.self.list.items) l.coll p b;
}

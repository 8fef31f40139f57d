use Rattle.std.proofs.Common.{◌≡◌, ◌⊎◌, ℕ, ℤ, List, IsTrue, map, drop}
use Rattle.bson_base.specs.Value.{Value, document, Members}
use Rattle.bson_bytes.specs.Encode.{encode}
use Rattle.store_question.specs.Filters.{filter_of, tests_of}
use Rattle.store_model.specs.Filter.{SelectsAll, SelectsAny, all_of}
use Rattle.store_model.specs.State.{IsKept}
use Rattle.bson_store.specs.Find.{FindsIn}
use Rattle.bson_store.specs.Lists.{is_among}
use Rattle.bson_store.specs.Serving.{IsSelected, IsServed}
use Rattle.bson_store.proofs.indexed.serving.+gathering.Given as goal

abbrev pub invariant-places_of_least-loop-filter : goal.invariant-places_of_least-loop-filter
invariant-places_of_least-loop-filter l = record {
  served : IsServed l.index (IsSelected (all_of (tests_of (map filter_of l.filters)))) l.least;
  narrow : (d : Value) → SelectsAll (tests_of (map filter_of l.filters)) d → SelectsAll (tests_of (map filter_of (drop l.filter-index l.filters))) d;
}

abbrev pub invariant-places_of_each-loop-filter : goal.invariant-places_of_each-loop-filter
invariant-places_of_each-loop-filter l = record {
  so_far : (place : ℤ) (body : List ℕ) (d : Members) → FindsIn l.index place body → IsKept d → body ≡ encode d → SelectsAny (tests_of (map filter_of l.filters)) (document d)
      → IsTrue (is_among place l.all.items) ⊎ SelectsAny (tests_of (map filter_of (drop l.filter-index l.filters))) (document d);
}

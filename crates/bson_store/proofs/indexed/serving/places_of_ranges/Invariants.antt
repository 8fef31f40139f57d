use Rattle.std.proofs.Common.{drop}
use Rattle.bson_base.specs.Value.{Members}
use Rattle.bson_store.specs.Fronts.{LiesInAll}
use Rattle.bson_store.specs.Serving.{IsServed}
use Rattle.bson_store.proofs.indexed.serving.places_of_ranges.Given as goal

abbrev pub invariant-loop-range : goal.invariant-loop-range
invariant-loop-range l = record {
  served : IsServed l.index (LiesInAll l.ranges) l.least;
  narrow : (d : Members) → LiesInAll l.ranges d → LiesInAll (drop l.range-index l.ranges) d;
}

use Rattle.std.proofs.Common.{◌≡◌, List, map, take}
use Rattle.bson_base.specs.Value.{Members}
use Rattle.bson_model.specs.View.{view}
use Rattle.store_pipeline.proofs.sorted.distinct.Distinct.take.Given as goal
use Rattle.store_pipeline.specs.Counted.{Holds, IsCounting, counted_in, path_in}

abbrev pub invariant-loop-value : goal.invariant-loop-value
invariant-loop-value l =
    (path_in l.self ≡ path_in l.fn.self)
    × (l.self.number ≡ l.number)
    × ((ds : List Members) → Holds l.fn.self ds → IsCounting (path_in l.self) ds (map view (take l.value-index l.value-items)) l.number (counted_in l.self))

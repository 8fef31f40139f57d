use Rattle.std.proofs.Common.{◌≡◌, drop, map}
use Rattle.std.specs.List.{filter}
use Rattle.bson_model.specs.View.{view}
use Rattle.store_update.specs.Number.{is_number}
use Rattle.store_pipeline.proofs.accumulating.sum_of.Given as goal
use Rattle.store_pipeline.specs.Groups.{sum_from, sum_of}

abbrev pub invariant-loop-value : goal.invariant-loop-value
invariant-loop-value l = sum_of (filter is_number (map view l.values)) ≡ sum_from (view l.total) (filter is_number (map view (drop l.value-index l.values)))

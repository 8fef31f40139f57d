use Rattle.std.proofs.Common.{◌≡◌, ◌+◌, ◌≤◌, drop, length, map}
use Rattle.std.specs.List.{filter}
use Rattle.bson_model.specs.View.{view}
use Rattle.store_update.specs.Number.{is_number}
use Rattle.store_pipeline.proofs.accumulating.count_numbers.Given as goal

abbrev pub invariant-loop-value : goal.invariant-loop-value
invariant-loop-value l = (length (filter is_number (map view l.values)) ≡ l.count + length (filter is_number (map view (drop l.value-index l.values)))) × (l.count ≤ l.value-index)

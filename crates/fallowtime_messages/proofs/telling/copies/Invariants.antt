use Rattle.std.proofs.Common.{◌≡◌, map, take}
use Rattle.bson_model.specs.View.{view}
use Rattle.store_pipeline.specs.Counted.{value_in}
use Rattle.fallowtime_messages.proofs.telling.copies.Given as goal

abbrev pub invariant-loop-counted : goal.invariant-loop-counted
invariant-loop-counted l = map view l.items.items ≡ map value_in (take l.counted-index l.values)

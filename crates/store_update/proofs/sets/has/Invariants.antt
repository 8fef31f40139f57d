use Rattle.std.proofs.Common.{◌≡◌, drop, map}
use Rattle.bson_model.specs.View.{view}
use Rattle.store_update.specs.Arrays.{has}
use Rattle.store_update.proofs.sets.has.Given as goal

abbrev pub invariant-loop-item : goal.invariant-loop-item
invariant-loop-item l = has (map view l.items) (view l.value) ≡ has (map view (drop l.item-index l.items)) (view l.value)

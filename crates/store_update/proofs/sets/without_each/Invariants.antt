use Rattle.std.proofs.Common.{◌≡◌, ◌++◌, drop, map}
use Rattle.bson_model.specs.View.{view}
use Rattle.store_update.specs.Arrays.{without_each}
use Rattle.store_update.proofs.sets.without_each.Given as goal

abbrev pub invariant-loop-item : goal.invariant-loop-item
invariant-loop-item l = without_each (map view l.values) (map view l.items) ≡ map view l.left.items ++ without_each (map view l.values) (map view (drop l.item-index l.items))

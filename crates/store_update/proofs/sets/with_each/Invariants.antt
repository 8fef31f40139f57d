use Rattle.std.proofs.Common.{◌≡◌, drop, map}
use Rattle.bson_model.specs.View.{view}
use Rattle.store_update.specs.Arrays.{with_each}
use Rattle.store_update.proofs.sets.with_each.Given as goal

abbrev pub invariant-loop-value : goal.invariant-loop-value
invariant-loop-value l = with_each (map view l.new) (map view l.fn.items.items) ≡ with_each (map view (drop l.value-index l.new)) (map view l.all.items)

use Rattle.std.proofs.Common.{◌≡◌, ◌++◌, map, take}
use Rattle.bson_model.specs.View.{view}
use Rattle.store_update.proofs.arrays.copy_behind.Given as goal

abbrev pub invariant-loop-item : goal.invariant-loop-item
invariant-loop-item l = map view l.all.items ≡ map view l.fn.all.items ++ map view (take l.item-index l.items)

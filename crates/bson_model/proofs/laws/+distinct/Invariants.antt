use Rattle.std.proofs.Common.{map, take}
use Rattle.bson_base.specs.Value.{ItemsHaveDistinctKeys}
use Rattle.bson_model.specs.View.{view, items_of}
use Rattle.bson_model.proofs.laws.+distinct.Given as goal

abbrev pub invariant-distinct_keys_of_items-loop-item : goal.invariant-distinct_keys_of_items-loop-item
invariant-distinct_keys_of_items-loop-item l = ItemsHaveDistinctKeys (items_of (map view (take l.item-index l.items)))

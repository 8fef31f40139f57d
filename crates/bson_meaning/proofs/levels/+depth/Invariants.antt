use Rattle.std.proofs.Common.{◌≡◌, ◌^◌, ◌-◌, map, min, max, ◌+◌, ◌*◌, ◌≤◌, drop}
use Rattle.bson_base.specs.Value.{levels, items_levels, members_levels}
use Rattle.bson_model.specs.Rest.{iter_rest}
use Rattle.bson_model.specs.View.{view, pairs_of, items_of, members_of}
use Rattle.bson_meaning.proofs.levels.+depth.Given as goal

abbrev pub decreases-depth : goal.decreases-depth
decreases-depth l = 2 * levels (view l.value.now)

abbrev pub decreases-depth_of_items : goal.decreases-depth_of_items
decreases-depth_of_items l = 2 * items_levels (items_of (map view l.items.now)) + 1

abbrev pub decreases-depth_of_members : goal.decreases-depth_of_members
decreases-depth_of_members l = 2 * members_levels (members_of (pairs_of l.document.now)) + 1

abbrev pub invariant-depth_of_items-loop-item : goal.invariant-depth_of_items-loop-item
invariant-depth_of_items-loop-item l =
    (l.greatest ≤ 2 ^ 64 - 1)
    × (min (items_levels (items_of (map view l.items))) (2 ^ 64 - 1) ≡ min (max l.greatest (items_levels (items_of (map view (drop l.item-index l.items))))) (2 ^ 64 - 1))
    × (items_levels (items_of (map view (drop l.item-index l.items))) ≤ items_levels (items_of (map view l.items)))

abbrev pub invariant-depth_of_members-loop-value : goal.invariant-depth_of_members-loop-value
invariant-depth_of_members-loop-value l =
    (l.greatest ≤ 2 ^ 64 - 1)
    × (min (members_levels (members_of (pairs_of l.document))) (2 ^ 64 - 1) ≡ min (max l.greatest (members_levels (members_of (iter_rest l.value-iterator)))) (2 ^ 64 - 1))
    × (members_levels (members_of (iter_rest l.value-iterator)) ≤ members_levels (members_of (pairs_of l.document)))
    × (goal.iterator-depth_of_members-loop-value).can_next l.value-iterator
    × (goal.iterator-depth_of_members-loop-value).is_finite l.value-iterator

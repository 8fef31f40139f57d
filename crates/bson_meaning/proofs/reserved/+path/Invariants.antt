use Rattle.std.proofs.Common.{◌≡◌, map, ◌+◌, ◌*◌, ◌≤◌, drop}
use Rattle.bson_base.specs.Value.{levels, items_levels, members_levels}
use Rattle.bson_meaning.specs.JsonReserved.{reserved_path_below, reserved_path_in_items}
use Rattle.bson_model.specs.Rest.{iter_rest}
use Rattle.bson_model.specs.View.{view, pairs_of, items_of, members_of}
use Rattle.bson_meaning.proofs.reserved.+path.Given as goal

abbrev pub decreases-path_inside : goal.decreases-path_inside
decreases-path_inside l = 2 * levels (view l.value.now)

abbrev pub decreases-path_in_items : goal.decreases-path_in_items
decreases-path_in_items l = 2 * items_levels (items_of (map view l.items.now)) + 1

abbrev pub decreases-path_below : goal.decreases-path_below
decreases-path_below l = 2 * members_levels (members_of (pairs_of l.document.now)) + 1

abbrev pub invariant-path_in_items-loop-place : goal.invariant-path_in_items-loop-place
invariant-path_in_items-loop-place l =
    (reserved_path_in_items 0 (items_of (map view l.items)) ≡ reserved_path_in_items l.place-counter (items_of (map view (drop l.place-counter l.items))))
    × (items_levels (items_of (map view (drop l.place-counter l.items))) ≤ items_levels (items_of (map view l.items)))

abbrev pub invariant-path_below-loop-key : goal.invariant-path_below-loop-key
invariant-path_below-loop-key l =
    (reserved_path_below (members_of (pairs_of l.document)) ≡ reserved_path_below (members_of (iter_rest l.key-iterator)))
    × (members_levels (members_of (iter_rest l.key-iterator)) ≤ members_levels (members_of (pairs_of l.document)))
    × (goal.iterator-path_below-loop-key).can_next l.key-iterator
    × (goal.iterator-path_below-loop-key).is_finite l.key-iterator

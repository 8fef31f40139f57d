use Rattle.std.proofs.Common.{◌≡◌, map, ◌+◌, ◌*◌, ◌≤◌, drop}
use Rattle.bson_base.specs.Value.{levels, items_levels, members_levels}
use Rattle.bson_meaning.specs.JsonReserved.{has_reserved, reserved_in_items}
use Rattle.bson_model.specs.Rest.{iter_rest}
use Rattle.bson_model.specs.View.{view, pairs_of, items_of, members_of}
use Rattle.bson_meaning.proofs.reserved.+reserved.Given as goal

abbrev pub decreases-has_reserved_inside : goal.decreases-has_reserved_inside
decreases-has_reserved_inside l = 2 * levels (view l.value.now)

abbrev pub decreases-have_reserved_inside : goal.decreases-have_reserved_inside
decreases-have_reserved_inside l = 2 * items_levels (items_of (map view l.items.now)) + 1

abbrev pub decreases-has_reserved_below : goal.decreases-has_reserved_below
decreases-has_reserved_below l = 2 * members_levels (members_of (pairs_of l.document.now)) + 1

abbrev pub invariant-have_reserved_inside-loop-item : goal.invariant-have_reserved_inside-loop-item
invariant-have_reserved_inside-loop-item l =
    (reserved_in_items (items_of (map view l.items)) ≡ reserved_in_items (items_of (map view (drop l.item-index l.items))))
    × (items_levels (items_of (map view (drop l.item-index l.items))) ≤ items_levels (items_of (map view l.items)))

abbrev pub invariant-has_reserved_below-loop-value : goal.invariant-has_reserved_below-loop-value
invariant-has_reserved_below-loop-value l =
    (has_reserved (members_of (pairs_of l.document)) ≡ has_reserved (members_of (iter_rest l.value-iterator)))
    × (members_levels (members_of (iter_rest l.value-iterator)) ≤ members_levels (members_of (pairs_of l.document)))
    × (goal.iterator-has_reserved_below-loop-value).can_next l.value-iterator
    × (goal.iterator-has_reserved_below-loop-value).is_finite l.value-iterator

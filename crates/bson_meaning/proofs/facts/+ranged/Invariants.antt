use Rattle.std.proofs.Common.{map, ◌+◌, ◌*◌, ◌≤◌, drop, IsUtf8}
use Rattle.bson_base.specs.Kinds.{IsRangedScalar}
use Rattle.bson_base.specs.Value.{EachItem, EachMember, levels, items_levels, members_levels}
use Rattle.bson_model.specs.Rest.{iter_rest}
use Rattle.bson_model.specs.View.{view, pairs_of, items_of, members_of}
use Rattle.bson_meaning.proofs.facts.+ranged.Given as goal

abbrev pub decreases-ranged_value : goal.decreases-ranged_value
decreases-ranged_value l = 2 * levels (view l.value.now)

abbrev pub decreases-ranged_items : goal.decreases-ranged_items
decreases-ranged_items l = 2 * items_levels (items_of (map view l.items.now)) + 1

abbrev pub decreases-ranged_members : goal.decreases-ranged_members
decreases-ranged_members l = 2 * members_levels (members_of (pairs_of l.document.now)) + 1

abbrev pub invariant-ranged_items-loop-item : goal.invariant-ranged_items-loop-item
invariant-ranged_items-loop-item l =
    (EachItem IsUtf8 IsRangedScalar (items_of (map view (drop l.item-index l.items))) → EachItem IsUtf8 IsRangedScalar (items_of (map view l.items)))
    × (items_levels (items_of (map view (drop l.item-index l.items))) ≤ items_levels (items_of (map view l.items)))

abbrev pub invariant-ranged_members-loop-key : goal.invariant-ranged_members-loop-key
invariant-ranged_members-loop-key l =
    (EachMember IsUtf8 IsRangedScalar (members_of (iter_rest l.key-iterator)) → EachMember IsUtf8 IsRangedScalar (members_of (pairs_of l.document)))
    × (members_levels (members_of (iter_rest l.key-iterator)) ≤ members_levels (members_of (pairs_of l.document)))
    × (goal.iterator-ranged_members-loop-key).can_next l.key-iterator
    × (goal.iterator-ranged_members-loop-key).is_finite l.key-iterator

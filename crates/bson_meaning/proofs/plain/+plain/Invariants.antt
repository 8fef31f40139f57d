use Rattle.std.proofs.Common.{◌↔◌, map, ◌+◌, ◌*◌, ◌≤◌, drop}
use Rattle.bson_base.specs.Kinds.{HasNo00, IsPlainScalar}
use Rattle.bson_base.specs.Value.{EachItem, EachMember, levels, items_levels, members_levels}
use Rattle.bson_model.specs.Rest.{iter_rest}
use Rattle.bson_model.specs.View.{view, pairs_of, items_of, members_of}
use Rattle.bson_meaning.proofs.plain.+plain.Given as goal

abbrev pub decreases-is_plain : goal.decreases-is_plain
decreases-is_plain l = 2 * levels (view l.value.now)

abbrev pub decreases-are_plain : goal.decreases-are_plain
decreases-are_plain l = 2 * items_levels (items_of (map view l.items.now)) + 1

abbrev pub decreases-has_plain_members : goal.decreases-has_plain_members
decreases-has_plain_members l = 2 * members_levels (members_of (pairs_of l.document.now)) + 1

abbrev pub invariant-are_plain-loop-item : goal.invariant-are_plain-loop-item
invariant-are_plain-loop-item l =
    (EachItem HasNo00 IsPlainScalar (items_of (map view l.items)) ↔ EachItem HasNo00 IsPlainScalar (items_of (map view (drop l.item-index l.items))))
    × (items_levels (items_of (map view (drop l.item-index l.items))) ≤ items_levels (items_of (map view l.items)))

abbrev pub invariant-has_plain_members-loop-key : goal.invariant-has_plain_members-loop-key
invariant-has_plain_members-loop-key l =
    (EachMember HasNo00 IsPlainScalar (members_of (pairs_of l.document)) ↔ EachMember HasNo00 IsPlainScalar (members_of (iter_rest l.key-iterator)))
    × (members_levels (members_of (iter_rest l.key-iterator)) ≤ members_levels (members_of (pairs_of l.document)))
    × (goal.iterator-has_plain_members-loop-key).can_next l.key-iterator
    × (goal.iterator-has_plain_members-loop-key).is_finite l.key-iterator

use Rattle.std.proofs.Common.{IsUtf8, ◌≡◌, ◌^◌, ◌-◌, map, min, ◌+◌, ◌*◌, ◌≤◌, drop}
use Rattle.bson_base.specs.Kinds.{IsRangedScalar}
use Rattle.bson_base.specs.Value.{levels, items_levels, members_levels, EachItem, EachMember, ItemsHaveDistinctKeys, MembersHaveDistinctKeys}
use Rattle.bson_bytes.specs.Encode.{items_size, members_size}
use Rattle.bson_model.specs.Rest.{iter_rest}
use Rattle.bson_model.specs.View.{view, pairs_of, items_of, members_of}
use Rattle.bson_meaning.specs.Meaning.{norm_items, norm_members}
use Rattle.bson_meaning.proofs.PairwiseLemmas.{StandOnce}
use Rattle.bson_meaning.proofs.lengths.+lengths.Given as goal

abbrev pub decreases-length_of_value : goal.decreases-length_of_value
decreases-length_of_value l = 2 * levels (view l.value.now)

abbrev pub decreases-length_of_items : goal.decreases-length_of_items
decreases-length_of_items l = 2 * items_levels (items_of (map view l.items.now)) + 1

abbrev pub decreases-length_of_members : goal.decreases-length_of_members
decreases-length_of_members l = 2 * members_levels (members_of (pairs_of l.document.now)) + 1

abbrev pub invariant-length_of_items-loop-i : goal.invariant-length_of_items-loop-i
invariant-length_of_items-loop-i l =
    (l.length ≤ 2 ^ 64 - 1)
    × (min (items_size 0 (norm_items (items_of (map view l.items)))) (2 ^ 64 - 1) ≡ min (l.length + items_size l.i (norm_items (items_of (map view (drop l.i l.items))))) (2 ^ 64 - 1))
    × (items_levels (items_of (map view (drop l.i l.items))) ≤ items_levels (items_of (map view l.items)))
    × (EachItem IsUtf8 IsRangedScalar (items_of (map view (drop l.i l.items))) → EachItem IsUtf8 IsRangedScalar (items_of (map view l.items)))
    × (ItemsHaveDistinctKeys (items_of (map view (drop l.i l.items))) → ItemsHaveDistinctKeys (items_of (map view l.items)))

abbrev pub invariant-length_of_members-loop-key : goal.invariant-length_of_members-loop-key
invariant-length_of_members-loop-key l =
    (l.length ≤ 2 ^ 64 - 1)
    × (min (members_size (norm_members (members_of (pairs_of l.document)))) (2 ^ 64 - 1) ≡ min (l.length + members_size (norm_members (members_of (iter_rest l.key-iterator)))) (2 ^ 64 - 1))
    × (members_levels (members_of (iter_rest l.key-iterator)) ≤ members_levels (members_of (pairs_of l.document)))
    × (EachMember IsUtf8 IsRangedScalar (members_of (iter_rest l.key-iterator)) → EachMember IsUtf8 IsRangedScalar (members_of (pairs_of l.document)))
    × StandOnce (members_of (iter_rest l.key-iterator))
    × (MembersHaveDistinctKeys (members_of (iter_rest l.key-iterator)) → MembersHaveDistinctKeys (members_of (pairs_of l.document)))
    × (goal.iterator-length_of_members-loop-key).can_next l.key-iterator
    × (goal.iterator-length_of_members-loop-key).is_finite l.key-iterator

use Rattle.std.proofs.Common.{IsUtf8, ◌≡◌, length, map, ◌++◌, ◌+◌, ◌*◌, ◌≤◌}
use Rattle.std.specs.Vec.Iter.{into_iter_items, into_iter_len}
use Rattle.bson_base.specs.Kinds.{IsRangedScalar}
use Rattle.bson_base.specs.Value.{levels, items_levels, members_levels, EachItem, EachMember, ItemsHaveDistinctKeys, MembersHaveDistinctKeys}
use Rattle.bson_model.specs.Rest.{owned_member, into_iter_rest}
use Rattle.bson_model.specs.View.{view, pairs_of, items_of, members_of}
use Rattle.bson_meaning.specs.Meaning.{norm}
use Rattle.bson_meaning.specs.Pairs.{normal_pair}
use Rattle.bson_meaning.proofs.PairwiseLemmas.{StandOnce}
use Rattle.bson_meaning.proofs.forms.+normal.Given as goal

abbrev pub decreases-normalize : goal.decreases-normalize
decreases-normalize l = 3 * levels (view l.value)

abbrev pub decreases-normal_items : goal.decreases-normal_items
decreases-normal_items l = 3 * items_levels (items_of (map view l.items.items)) + 1

abbrev pub decreases-normalize_document : goal.decreases-normalize_document
decreases-normalize_document l = 3 * members_levels (members_of (pairs_of l.document)) + 2

abbrev pub decreases-normal_pairs : goal.decreases-normal_pairs
decreases-normal_pairs l = 3 * members_levels (members_of (pairs_of l.document)) + 1

abbrev pub invariant-normal_items-loop-item : goal.invariant-normal_items-loop-item
invariant-normal_items-loop-item l =
    (map view l.normal.items ++ map (λ b. norm (view b)) (into_iter_items l.item-iterator) ≡ map (λ b. norm (view b)) l.fn.items.items)
    × (length (into_iter_items l.item-iterator) ≡ into_iter_len l.item-iterator)
    × (items_levels (items_of (map view (into_iter_items l.item-iterator))) ≤ items_levels (items_of (map view l.fn.items.items)))
    × (EachItem IsUtf8 IsRangedScalar (items_of (map view (into_iter_items l.item-iterator))) → EachItem IsUtf8 IsRangedScalar (items_of (map view l.fn.items.items)))
    × (ItemsHaveDistinctKeys (items_of (map view (into_iter_items l.item-iterator))) → ItemsHaveDistinctKeys (items_of (map view l.fn.items.items)))
    × (goal.iterator-normal_items-loop-item).can_next l.item-iterator
    × (goal.iterator-normal_items-loop-item).is_finite l.item-iterator

abbrev pub invariant-normal_pairs-loop-key : goal.invariant-normal_pairs-loop-key
invariant-normal_pairs-loop-key l =
    (map owned_member l.pairs.items ++ map normal_pair (into_iter_rest l.key-iterator) ≡ map normal_pair (pairs_of l.fn.document))
    × (members_levels (members_of (into_iter_rest l.key-iterator)) ≤ members_levels (members_of (pairs_of l.fn.document)))
    × (EachMember IsUtf8 IsRangedScalar (members_of (into_iter_rest l.key-iterator)) → EachMember IsUtf8 IsRangedScalar (members_of (pairs_of l.fn.document)))
    × StandOnce (members_of (into_iter_rest l.key-iterator))
    × (MembersHaveDistinctKeys (members_of (into_iter_rest l.key-iterator)) → MembersHaveDistinctKeys (members_of (pairs_of l.fn.document)))
    × (goal.iterator-normal_pairs-loop-key).can_next l.key-iterator
    × (goal.iterator-normal_pairs-loop-key).is_finite l.key-iterator

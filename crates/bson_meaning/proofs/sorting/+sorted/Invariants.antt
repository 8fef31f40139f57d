use Rattle.std.proofs.Common.{◌≡◌, length, map, ◌++◌, ◌+◌, ◌*◌, ◌≤◌}
use Rattle.std.specs.Vec.Iter.{into_iter_items, into_iter_len}
use Rattle.bson_base.specs.Value.{levels, items_levels, members_levels}
use Rattle.bson_model.specs.Rest.{owned_member, into_iter_rest}
use Rattle.bson_model.specs.View.{view, pairs_of, items_of, members_of}
use Rattle.bson_meaning.specs.Meaning.{asc}
use Rattle.bson_meaning.specs.Pairs.{sorted_pair}
use Rattle.bson_meaning.proofs.sorting.+sorted.Given as goal

abbrev pub decreases-sort_keys : goal.decreases-sort_keys
decreases-sort_keys l = 3 * levels (view l.value)

abbrev pub decreases-sorted_items : goal.decreases-sorted_items
decreases-sorted_items l = 3 * items_levels (items_of (map view l.items.items)) + 1

abbrev pub decreases-sorted : goal.decreases-sorted
decreases-sorted l = 3 * members_levels (members_of (pairs_of l.document)) + 2

abbrev pub decreases-sorted_pairs : goal.decreases-sorted_pairs
decreases-sorted_pairs l = 3 * members_levels (members_of (pairs_of l.document)) + 1

abbrev pub invariant-sorted_items-loop-item : goal.invariant-sorted_items-loop-item
invariant-sorted_items-loop-item l =
    (map view l.sorted.items ++ map (λ b. asc (view b)) (into_iter_items l.item-iterator) ≡ map (λ b. asc (view b)) l.fn.items.items)
    × (length (into_iter_items l.item-iterator) ≡ into_iter_len l.item-iterator)
    × (items_levels (items_of (map view (into_iter_items l.item-iterator))) ≤ items_levels (items_of (map view l.fn.items.items)))
    × (goal.iterator-sorted_items-loop-item).can_next l.item-iterator
    × (goal.iterator-sorted_items-loop-item).is_finite l.item-iterator

abbrev pub invariant-sorted_pairs-loop-key : goal.invariant-sorted_pairs-loop-key
invariant-sorted_pairs-loop-key l =
    (map owned_member l.pairs.items ++ map sorted_pair (into_iter_rest l.key-iterator) ≡ map sorted_pair (pairs_of l.fn.document))
    × (members_levels (members_of (into_iter_rest l.key-iterator)) ≤ members_levels (members_of (pairs_of l.fn.document)))
    × (goal.iterator-sorted_pairs-loop-key).can_next l.key-iterator
    × (goal.iterator-sorted_pairs-loop-key).is_finite l.key-iterator

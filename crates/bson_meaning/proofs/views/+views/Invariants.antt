use Rattle.std.proofs.Common.{length, map, ◌+◌, ◌*◌, ◌≤◌, drop}
use Rattle.bson_base.specs.Value.{Items, Members, levels, items_levels, members_levels, ItemsHaveDistinctKeys, MembersHaveDistinctKeys}
use Rattle.bson_bytes.specs.Spells.{SpellsItems, SpellsMembers}
use Rattle.bson_model.specs.View.{view, pairs_of, items_of, members_of}
use Rattle.bson_raw.specs.View.{bytes_of, array_bytes, left_of}
use Rattle.bson_meaning.proofs.ViewLemmas.{MembersLeft, ItemsLeft}
use Rattle.bson_meaning.proofs.views.+views.Given as goal

abbrev pub decreases-same_as_raw : goal.decreases-same_as_raw
decreases-same_as_raw l = 3 * levels (view l.value.now)

abbrev pub decreases-same_element : goal.decreases-same_element
decreases-same_element l = 3 * levels (view l.value.now) + 1

abbrev pub decreases-same_members : goal.decreases-same_members
decreases-same_members l = 3 * members_levels (members_of (pairs_of l.document.now)) + 2

abbrev pub decreases-same_elements : goal.decreases-same_elements
decreases-same_elements l = 3 * items_levels (items_of (map view l.items.now)) + 2

abbrev pub invariant-same_members-loop-item : goal.invariant-same_members-loop-item
invariant-same_members-loop-item l =
    ((all : Members) → SpellsMembers (drop 4 (bytes_of l.raw)) all → MembersHaveDistinctKeys all → MembersLeft (left_of l.item-iterator) l.left (length (pairs_of l.document)) all (members_of (pairs_of l.document)))
    × (goal.iterator-same_members-loop-item).can_next l.item-iterator
    × (goal.iterator-same_members-loop-item).is_finite l.item-iterator

abbrev pub invariant-same_elements-loop-item : goal.invariant-same_elements-loop-item
invariant-same_elements-loop-item l =
    ((all : Items) → SpellsItems (drop 4 (array_bytes l.raw)) all → ItemsHaveDistinctKeys all → ItemsLeft (left_of l.item-iterator) all (items_of (map view l.items)) (items_of (map view l.left)))
    × (items_levels (items_of (map view l.left)) ≤ items_levels (items_of (map view l.items)))
    × (goal.iterator-same_elements-loop-item).can_next l.item-iterator
    × (goal.iterator-same_elements-loop-item).is_finite l.item-iterator

use Rattle.std.proofs.Common.{◌↔◌, map, ◌+◌, ◌*◌, ◌≤◌, drop}
use Rattle.bson_base.specs.Value.{levels, items_levels, members_levels}
use Rattle.bson_model.specs.Equal.{SameKeys}
use Rattle.bson_model.specs.Rest.{ascending_rest}
use Rattle.bson_model.specs.View.{view, pairs_of, items_of, members_of}
use Rattle.bson_meaning.specs.Meaning.{SameItems, SameUnder}
use Rattle.bson_meaning.proofs.PairwiseLemmas.{SameInTurn}
use Rattle.bson_meaning.proofs.compare.+same.Given as goal

abbrev pub decreases-same_meaning : goal.decreases-same_meaning
decreases-same_meaning l = 3 * levels (view l.value.now)

abbrev pub decreases-same_items : goal.decreases-same_items
decreases-same_items l = 3 * items_levels (items_of (map view l.items.now)) + 1

abbrev pub decreases-same_documents : goal.decreases-same_documents
decreases-same_documents l = 3 * members_levels (members_of (pairs_of l.document.now)) + 1

abbrev pub invariant-same_items-loop-item : goal.invariant-same_items-loop-item
invariant-same_items-loop-item l =
    (SameItems (items_of (map view l.items)) (items_of (map view l.others)) ↔ SameItems (items_of (map view (drop l.item-index l.items))) (items_of (map view l.left)))
    × (items_levels (items_of (map view (drop l.item-index l.items))) ≤ items_levels (items_of (map view l.items)))

abbrev pub invariant-same_documents-loop-key : goal.invariant-same_documents-loop-key
invariant-same_documents-loop-key l =
    ((SameKeys (members_of (pairs_of l.document)) (members_of (pairs_of l.other)) × SameUnder (members_of (pairs_of l.document)) (members_of (pairs_of l.other)))
    ↔ SameInTurn (members_of (ascending_rest l.key-iterator)) (members_of (ascending_rest l.others)))
    × (members_levels (members_of (ascending_rest l.key-iterator)) ≤ members_levels (members_of (pairs_of l.document)))
    × (goal.iterator-same_documents-loop-key).can_next l.key-iterator
    × (goal.iterator-same_documents-loop-key).is_finite l.key-iterator

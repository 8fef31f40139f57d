use Rattle.std.proofs.Common.{◌≡◌, ◌+◌, ◌*◌, ◌≤◌, drop, map}
use Rattle.bson_base.specs.Value.{levels, items_levels, members_levels}
use Rattle.bson_model.specs.Rest.{iter_rest}
use Rattle.bson_model.specs.View.{view, pairs_of, items_of, members_of}
use Rattle.bson_order.proofs.TreeLemmas.{list_inside, pairs_inside}
use Rattle.bson_order.proofs.TurnLemmas.{compared}
use Rattle.bson_order.proofs.trees.+trees.Given as goal

abbrev pub decreases-compare_trees : goal.decreases-compare_trees
decreases-compare_trees l = 4 * levels (view l.value.now) + 1

abbrev pub decreases-compare_contents : goal.decreases-compare_contents
decreases-compare_contents l = 4 * levels (view l.value.now)

abbrev pub decreases-compare_lists : goal.decreases-compare_lists
decreases-compare_lists l = 4 * items_levels (items_of (map view l.items.now)) + 3

abbrev pub decreases-compare_documents : goal.decreases-compare_documents
decreases-compare_documents l = 4 * members_levels (members_of (pairs_of l.document.now)) + 3

abbrev pub decreases-compare_pairs : goal.decreases-compare_pairs
decreases-compare_pairs l = 4 * levels (view l.value.now) + 2

abbrev pub invariant-compare_lists-loop-item : goal.invariant-compare_lists-loop-item
invariant-compare_lists-loop-item l =
    (compared (list_inside l.items) (list_inside l.others) ≡ compared (list_inside (drop l.item-index l.items)) (list_inside l.left))
    × (items_levels (items_of (map view (drop l.item-index l.items))) ≤ items_levels (items_of (map view l.items)))

abbrev pub invariant-compare_documents-loop-key : goal.invariant-compare_documents-loop-key
invariant-compare_documents-loop-key l =
    (compared (pairs_inside (pairs_of l.document)) (pairs_inside (pairs_of l.other)) ≡ compared (pairs_inside (iter_rest l.key-iterator)) (pairs_inside (iter_rest l.others)))
    × (members_levels (members_of (iter_rest l.key-iterator)) ≤ members_levels (members_of (pairs_of l.document)))
    × (goal.iterator-compare_documents-loop-key).can_next l.key-iterator
    × (goal.iterator-compare_documents-loop-key).is_finite l.key-iterator

use Rattle.std.proofs.Common.{◌+◌, ◌*◌, ◌≤◌, drop, map}
use Rattle.bson_base.specs.Value.{levels, items_levels, members_levels}
use Rattle.bson_model.specs.Rest.{iter_rest}
use Rattle.bson_model.specs.View.{view, pairs_of, items_of, members_of}
use Rattle.bson_json.proofs.PrintLemmas.{ItemsEnd, MembersEnd}
use Rattle.bson_json.proofs.value.+print.Given as goal

abbrev pub decreases-print_value : goal.decreases-print_value
decreases-print_value l = 3 * levels (view l.value.now)

abbrev pub decreases-print_items : goal.decreases-print_items
decreases-print_items l = 3 * items_levels (items_of (map view l.items.now)) + 1

abbrev pub decreases-print_members : goal.decreases-print_members
decreases-print_members l = 3 * members_levels (members_of (pairs_of l.document.now)) + 1

abbrev pub decreases-print_scoped : goal.decreases-print_scoped
decreases-print_scoped l = 3 * members_levels (members_of (pairs_of l.code.now.scope)) + 2

abbrev pub invariant-print_items-loop-item : goal.invariant-print_items-loop-item
invariant-print_items-loop-item l =
    ItemsEnd l.mode l.items (drop l.item-index l.items) l.initial.out l.out
    × (items_levels (items_of (map view (drop l.item-index l.items))) ≤ items_levels (items_of (map view l.items)))

abbrev pub invariant-print_members-loop-key : goal.invariant-print_members-loop-key
invariant-print_members-loop-key l =
    MembersEnd l.mode (pairs_of l.document) (iter_rest l.key-iterator) l.initial.out l.out
    × (members_levels (members_of (iter_rest l.key-iterator)) ≤ members_levels (members_of (pairs_of l.document)))
    × (goal.iterator-print_members-loop-key).can_next l.key-iterator
    × (goal.iterator-print_members-loop-key).is_finite l.key-iterator

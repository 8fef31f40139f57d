use Rattle.std.proofs.Common.{◌≡◌, ◌+◌, ◌*◌, IsTrue, Some, drop}
use Rattle.json.specs.Written.{Written}
use Rattle.bson_raw.specs.View.{array_bytes, bytes_of, left_of}
use Rattle.bson_json.specs.declared.style.Style.TheVariants.{Full}
use Rattle.bson_json.proofs.SettlingLemmas.{SettledItemsSoFar, SettledSoFar}
use Rattle.bson_json.proofs.StepLemmas.{ItemsEnd, MembersEnd, PairsEnd}
use Rattle.bson_json.proofs.StraightLemmas.{ItemsSoFar, MembersSoFar}
use Rattle.bson_json.proofs.document.+print.Given as goal

abbrev pub decreases-print_value : goal.decreases-print_value
decreases-print_value l = 4 * l.inner + 3

abbrev pub decreases-print_scoped : goal.decreases-print_scoped
decreases-print_scoped l = 4 * l.inner + 2

abbrev pub decreases-print_members : goal.decreases-print_members
decreases-print_members l = 4 * l.inner + 1

abbrev pub decreases-print_sorted : goal.decreases-print_sorted
decreases-print_sorted l = 4 * l.inner

abbrev pub decreases-print_in_turn : goal.decreases-print_in_turn
decreases-print_in_turn l = 4 * l.inner

abbrev pub decreases-print_items : goal.decreases-print_items
decreases-print_items l = 4 * l.inner

abbrev pub invariant-print_sorted-loop-pair : goal.invariant-print_sorted-loop-pair
invariant-print_sorted-loop-pair l =
    ((end : Written) → PairsEnd (drop l.pair-index l.pair-items) l.out end → PairsEnd l.pair-items l.initial.out end)
    × (l.out.before ≡ l.initial.out.before)

abbrev pub invariant-print_in_turn-loop-item : goal.invariant-print_in_turn-loop-item
invariant-print_in_turn-loop-item l =
    ((end : Written) → MembersEnd l.mode l.keys (left_of l.item-iterator) l.out end → MembersEnd l.mode l.keys (Some (drop 4 (bytes_of l.document))) l.initial.out end)
    × (l.out.before ≡ l.initial.out.before)
    × (goal.iterator-print_in_turn-loop-item).can_next l.item-iterator
    × (goal.iterator-print_in_turn-loop-item).is_finite l.item-iterator
    × MembersSoFar (Full l.mode) l.keys (drop 4 (bytes_of l.document)) (left_of l.item-iterator)
    × (IsTrue l.is_settled → SettledSoFar (drop 4 (bytes_of l.document)) (left_of l.item-iterator) l.fn.met.items l.met.items)

abbrev pub invariant-print_items-loop-item : goal.invariant-print_items-loop-item
invariant-print_items-loop-item l =
    ((end : Written) → ItemsEnd l.style (left_of l.item-iterator) l.out end → ItemsEnd l.style (Some (drop 4 (array_bytes l.array))) l.initial.out end)
    × (l.out.before ≡ l.initial.out.before)
    × (goal.iterator-print_items-loop-item).can_next l.item-iterator
    × (goal.iterator-print_items-loop-item).is_finite l.item-iterator
    × ItemsSoFar l.style (drop 4 (array_bytes l.array)) (left_of l.item-iterator)
    × (IsTrue l.is_settled → SettledItemsSoFar (drop 4 (array_bytes l.array)) (left_of l.item-iterator) l.fn.met.items l.met.items)

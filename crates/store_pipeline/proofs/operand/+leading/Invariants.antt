use Rattle.std.proofs.Common.{◌+◌, ◌*◌, [], length}
use Rattle.bson_raw.specs.View.{bytes_of, left_of}
use Rattle.store_pipeline.proofs.WalkLemmas.{AddsLeft}
use Rattle.store_question.specs.Filters.{path_of}
use Rattle.store_pipeline.proofs.operand.+leading.Given as goal
use Rattle.store_pipeline.specs.Operands.{led_to}
use Rattle.store_pipeline.specs.Taken.{through}
use Rattle.store_question.specs.Reads.{OfMembers}

abbrev pub decreases-led_to : goal.decreases-led_to
decreases-led_to l = 8 * length l.path.now + 1

abbrev pub decreases-under : goal.decreases-under
decreases-under l = 8 * length l.rest.now + 2

abbrev pub decreases-through : goal.decreases-through
decreases-through l = 8 * length l.rest.now + 3

abbrev pub decreases-in_items : goal.decreases-in_items
decreases-in_items l = 8 * length l.rest.now + 4

abbrev pub invariant-in_items-loop-item : goal.invariant-in_items-loop-item
invariant-in_items-loop-item l =
    OfMembers (bytes_of l.items) (λ ms. AddsLeft (through l.key (led_to (path_of l.rest))) ms [] (left_of l.item-iterator) l.found.items)
    × (goal.iterator-in_items-loop-item).can_next l.item-iterator
    × (goal.iterator-in_items-loop-item).is_finite l.item-iterator

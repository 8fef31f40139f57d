use Rattle.std.proofs.Common.{◌+◌, ◌*◌, length}
use Rattle.bson_raw.specs.View.{bytes_of, left_of}
use Rattle.store_pipeline.proofs.WalkLemmas.{AddsLeft}
use Rattle.store_pipeline.proofs.sorted.distinct_values.+leading.Given as goal
use Rattle.store_pipeline.specs.Distinct.{led_to, through}
use Rattle.store_question.specs.Filters.{path_of}
use Rattle.store_question.specs.Reads.{OfMembers}

abbrev pub decreases-led_to : goal.decreases-led_to
decreases-led_to l = 8 * length l.path.now + 1

abbrev pub decreases-under : goal.decreases-under
decreases-under l = 8 * length l.rest.now + 2

abbrev pub decreases-into_document : goal.decreases-into_document
decreases-into_document l = 8 * length l.rest.now + 3

abbrev pub decreases-through : goal.decreases-through
decreases-through l = 8 * length l.rest.now + 4

abbrev pub decreases-into_items : goal.decreases-into_items
decreases-into_items l = 8 * length l.rest.now + 5

abbrev pub invariant-into_items-loop-item : goal.invariant-into_items-loop-item
invariant-into_items-loop-item l =
    OfMembers (bytes_of l.items) (λ ms. AddsLeft (through l.key (led_to (path_of l.rest))) ms l.fn.values.items (left_of l.item-iterator) l.values.items)
    × (goal.iterator-into_items-loop-item).can_next l.item-iterator
    × (goal.iterator-into_items-loop-item).is_finite l.item-iterator

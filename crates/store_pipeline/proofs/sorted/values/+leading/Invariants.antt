use Rattle.std.proofs.Common.{◌+◌, ◌*◌, Option, length, true}
use Rattle.bson_base.specs.Value.{Value}
use Rattle.bson_raw.specs.View.{bytes_of, left_of}
use Rattle.store_question.specs.Filters.{path_of}
use Rattle.store_question.specs.Reads.{OfMembers, Shows}
use Rattle.store_pipeline.proofs.SortedLedLemmas.{BestLeft}
use Rattle.store_pipeline.proofs.sorted.values.+leading.Given as goal
use Rattle.store_pipeline.specs.Order.{into_item, led_to}

abbrev pub decreases-led_to : goal.decreases-led_to
decreases-led_to l = 8 * length l.path.now + 1

abbrev pub decreases-under : goal.decreases-under
decreases-under l = 8 * length l.rest.now + 2

abbrev pub decreases-into_item : goal.decreases-into_item
decreases-into_item l = 8 * length l.rest.now + 3

abbrev pub decreases-into_items : goal.decreases-into_items
decreases-into_items l = 8 * length l.rest.now + 4

abbrev pub decreases-into_array : goal.decreases-into_array
decreases-into_array l = 8 * length l.rest.now + 5

abbrev pub invariant-into_items-loop-item : goal.invariant-into_items-loop-item
invariant-into_items-loop-item l =
    ((o : Option Value) → Shows l.met o → OfMembers (bytes_of l.items) (λ ms. BestLeft (into_item l.key (led_to true (path_of l.rest))) l.descending ms o (left_of l.item-iterator) l.so_far))
    × (goal.iterator-into_items-loop-item).can_next l.item-iterator
    × (goal.iterator-into_items-loop-item).is_finite l.item-iterator

use Rattle.std.proofs.Common.{◌≡◌, ℕ, ◌+◌, ◌*◌, List, length}
use Rattle.std.specs.Borrow.{Bor}
use Rattle.bson_bytes.specs.Met.{HasMet}
use Rattle.bson_bytes.specs.Written.{AreAbsent, AreItemsSpelled, AreItemsWritten, AreSpelled, AreWritten}
use Rattle.bson_bytes.proofs.elements.+written.Given as goal

abbrev pub decreases-are_items_written : goal.decreases-are_items_written
decreases-are_items_written l = 3 * l.inner + 2

abbrev pub decreases-are_written : goal.decreases-are_written
decreases-are_written l = 3 * l.inner + 2

abbrev pub decreases-holds_written : goal.decreases-holds_written
decreases-holds_written l = 3 * l.inner

abbrev pub decreases-is_written : goal.decreases-is_written
decreases-is_written l = 3 * l.inner + 1

abbrev pub invariant-are_items_written-loop-place : goal.invariant-are_items_written-loop-place
invariant-are_items_written-loop-place l =
    (AreItemsWritten l.place l.rest → AreItemsWritten 0 l.elements) × (AreItemsSpelled l.rest l.inner → AreItemsSpelled l.elements l.inner) × (l.kept.items ≡ l.fn.kept.items)

abbrev pub invariant-are_written-loop-rest : goal.invariant-are_written-loop-rest
invariant-are_written-loop-rest l =
    (all : List (Bor (List ℕ))) × HasMet l.keys l.fn.kept.items l.kept.items all × (AreAbsent all l.rest → AreWritten l.rest → AreWritten l.elements)
    × (AreSpelled l.rest l.inner → AreSpelled l.elements l.inner)

abbrev pub decreases-are_written-loop-rest : goal.decreases-are_written-loop-rest
decreases-are_written-loop-rest l = length l.rest

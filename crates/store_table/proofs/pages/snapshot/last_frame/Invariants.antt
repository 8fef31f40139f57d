use Rattle.std.proofs.Common.{◌≡◌, ℕ, ◌<◌, ◌≤◌, length, get_or}
use Rattle.store_table.proofs.pages.snapshot.last_frame.Given as goal

-- no frame from here on has the page
abbrev pub invariant-loop-at : goal.invariant-loop-at
invariant-loop-at l = (l.at ≤ length l.frames) × ((i : ℕ) → l.at ≤ i → i < length l.frames → get_or l.frames i 0 ≡ l.page → ⊥)

abbrev pub decreases-loop-at : goal.decreases-loop-at
decreases-loop-at l = l.at

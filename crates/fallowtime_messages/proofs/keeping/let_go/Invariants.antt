use Rattle.std.proofs.Common.{◌≡◌, length, map}
use Rattle.fallowtime_messages.specs.Waiting.{kept, wait_of}
use Rattle.fallowtime_messages.proofs.keeping.let_go.Given as goal

abbrev pub invariant-loop-cursors : goal.invariant-loop-cursors
invariant-loop-cursors l = kept (map wait_of l.cursors.items) ≡ kept (map wait_of l.fn.cursors.items)

abbrev pub decreases-loop-cursors : goal.decreases-loop-cursors
decreases-loop-cursors l = length l.cursors.items

use Rattle.std.proofs.Common.{◌≤◌, ◌-◌, length, map, take}
use Rattle.fallowtime_messages.specs.Waiting.{IsGone, wait_of}
use Rattle.fallowtime_messages.proofs.taking.place_of.Given as goal

abbrev pub invariant-loop-place : goal.invariant-loop-place
invariant-loop-place l = (l.place ≤ length l.cursors) × IsGone l.id l.space (map wait_of (take l.place l.cursors))

abbrev pub decreases-loop-place : goal.decreases-loop-place
decreases-loop-place l = length l.cursors - l.place

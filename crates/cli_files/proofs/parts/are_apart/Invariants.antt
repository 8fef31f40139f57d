use Rattle.std.proofs.Common.{ℕ, ◌≤◌, length, drop}
use Rattle.std.specs.List.{AllByRecursion}
use Rattle.cli_files.specs.Agrees.{IsApart}
use Rattle.cli_files.proofs.parts.are_apart.Given as goal

-- those from here on have none
abbrev pub invariant-loop-i : goal.invariant-loop-i
invariant-loop-i l = (l.i ≤ length l.parts) × AllByRecursion (IsApart l.at l.len) (drop l.i l.parts)

abbrev pub decreases-loop-i : goal.decreases-loop-i
decreases-loop-i l = l.i

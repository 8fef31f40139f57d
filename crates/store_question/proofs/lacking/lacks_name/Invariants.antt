use Rattle.std.proofs.Common.{◌≤◌, ◌∷◌, [], length}
use Rattle.store_question.specs.Lacking.{NamedIn}
use Rattle.store_question.proofs.lacking.lacks_name.Given as goal

abbrev pub invariant-loop-place : goal.invariant-loop-place
invariant-loop-place l = (NamedIn (l.byte ∷ 0 ∷ []) l.bytes → NamedIn (l.byte ∷ 0 ∷ []) l.rest) × (length l.rest ≤ length l.bytes)

abbrev pub decreases-loop-place : goal.decreases-loop-place
decreases-loop-place l = length l.rest

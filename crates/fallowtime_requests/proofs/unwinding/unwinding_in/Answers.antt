use Rattle.std.proofs.Common.{◌≡◌, Some, None, inr, refl, subst, sym, ◌∙◌}
use Rattle.std.specs.Prelude.{MatchResult}
use Rattle.fallowtime_requests.specs.Reading.{StopsStages}
use Rattle.fallowtime_requests.specs.Staging.{unwound_of}
use Rattle.fallowtime_requests.proofs.UnwindLemmas.{of_object, other_keys}
use Rattle.fallowtime_requests.proofs.unwinding.unwinding_in.Goals as goal

pub returns-then-are_unwind_keys : goal.returns-then-are_unwind_keys
returns-then-are_unwind_keys c =
    subst (λ x. MatchResult c.unwinding_by.result (λ u. x ≡ Some (unwound_of u)) (StopsStages (x ≡ None)))
    (of_object c.args.value.now c.in-Object.members c.as_slice.result.now c.in-Object.is c.as_slice.ensures.value _ _ c.keeps_of.result (sym c.are_unwind_keys.ensures ∙ c.if-are_unwind_keys.true) c.get-path.ensures c.get-keeps.ensures c.keeps_of.ensures)
    c.unwinding_by.ensures

pub returns-else-are_unwind_keys : goal.returns-else-are_unwind_keys
returns-else-are_unwind_keys c = inr (other_keys c.args.value.now c.in-Object.members c.as_slice.result.now c.in-Object.is c.as_slice.ensures.value (sym c.are_unwind_keys.ensures ∙ c.if-are_unwind_keys.false), refl)

use Rattle.std.proofs.Common.{map, sym, subst, ◌≤◌, ◌∙◌}
use Rattle.fallowtime_messages.specs.Waiting.{wait_of}
use Rattle.fallowtime_messages.proofs.WaitLemmas.{kept_if_few, kept_if_fit}
use Rattle.fallowtime_messages.proofs.keeping.let_go.Goals as goal

pub returns-else-not-fit : goal.returns-else-not-fit
returns-else-not-fit c =
    let l = c.loop-cursors in
    sym (kept_if_fit (map wait_of l.cursors.items) (sym (rw c.as_slice.ensures.value at c.if-not-fit.ensures))) ∙ l.invariant

pub returns-after-loop-cursors : goal.returns-after-loop-cursors
returns-after-loop-cursors c =
    let l = c.loop-cursors in
    sym (kept_if_few l.cursors.items (subst (λ n. n ≤ 1) (c.len.ensures ∙ l.cursors.ok.0) c.loop-cursors-test.false)) ∙ l.invariant

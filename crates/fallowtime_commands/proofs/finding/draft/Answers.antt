use Rattle.std.proofs.Common.{◌++◌, ◌∙◌, ap}
use Rattle.std.proofs.lemmas.Result.{err_from_is_err_and}
use Rattle.fallowtime_commands.specs.Changing.{listed}
use Rattle.fallowtime_commands.proofs.ChangeLemmas.{memory_can_be, out_of_memory}
use Rattle.fallowtime_commands.proofs.FindingLemmas.{returned_so}
use Rattle.fallowtime_commands.proofs.finding.draft.Goals as goal

pub returns-in_err-edit-clause-drafts : goal.returns-in_err-edit-clause-drafts
returns-in_err-edit-clause-drafts c =
    let p = err_from_is_err_and c.from_residual.result c.from_residual.ensures.1 in
    rw (p.1, p.2) (λ d kept is. c.in_err-edit.ensures.becomes d kept is)

pub returns-in_err-returned-clause-drafts : goal.returns-in_err-returned-clause-drafts
returns-in_err-returned-clause-drafts c =
    let p = err_from_is_err_and c.from_residual-in_err-returned.result c.from_residual-in_err-returned.ensures.1 in
    rw (p.1, p.2) (λ d kept is. out_of_memory c.args.work.now d 0 c.in_err-returned.field-0.0 c.in_err-returned.ensures.refused)

pub returns-in_err-returned-clause-shape : goal.returns-in_err-returned-clause-shape
returns-in_err-returned-clause-shape c =
    let p = err_from_is_err_and c.from_residual-in_err-returned.result c.from_residual-in_err-returned.ensures.1 in
    rw (p.1, p.2) (memory_can_be c.args.work.now c.in_err-returned.field-0.0 c.in_err-returned.ensures.refused)

pub returns-in_err-push-clause-drafts : goal.returns-in_err-push-clause-drafts
returns-in_err-push-clause-drafts c =
    let p = err_from_is_err_and c.from_residual-in_err-push.result c.from_residual-in_err-push.ensures.1 in
    rw (p.1, p.2) (λ d kept is. out_of_memory c.args.work.now d 0 c.in_err-push.field-0.0 c.in_err-push.ensures)

pub returns-in_err-push-clause-shape : goal.returns-in_err-push-clause-shape
returns-in_err-push-clause-shape c =
    let p = err_from_is_err_and c.from_residual-in_err-push.result c.from_residual-in_err-push.ensures.1 in
    rw (p.1, p.2) (memory_can_be c.args.work.now c.in_err-push.field-0.0 c.in_err-push.ensures)

pub returns-clause-drafts : goal.returns-clause-drafts
returns-clause-drafts c d kept is =
    let becomes = c.in_ok-edit.ensures.becomes d kept is in
    let so = returned_so c.args.name.now c.args.work.now c.args.after d c.in_ok-edit.edit c.args.body.now is becomes in (
      c.in_ok-edit.edit,
      so.0,
      becomes,
      c.in_ok-push.ensures ∙ ap (λ xs. xs ++ listed c.in_ok-edit.edit) c.new-edits.ensures.items,
      so.1,
      c.in_ok-returned.ensures.part so.0 so.2,
    )

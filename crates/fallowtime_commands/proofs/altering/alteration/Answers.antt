use Rattle.std.proofs.Common.{◌++◌, ◌∙◌, ap, map}
use Rattle.std.proofs.lemmas.Result.{err_from_is_err_and}
use Rattle.store_update.specs.Plan.{plan_of}
use Rattle.fallowtime_commands.specs.Changing.{Updates, listed}
use Rattle.fallowtime_commands.proofs.ChangeLemmas.{no_memory}
use Rattle.fallowtime_commands.proofs.altering.alteration.Goals as goal

pub returns-in_err-edit : goal.returns-in_err-edit
returns-in_err-edit c =
    let p = err_from_is_err_and c.from_residual.result c.from_residual.ensures.1 in
    rw (p.1, p.2) (λ d kept is. c.in_err-edit.ensures d kept is)

pub returns-in_err-push : goal.returns-in_err-push
returns-in_err-push c =
    let p = err_from_is_err_and c.from_residual-in_err-push.result c.from_residual-in_err-push.ensures.1 in
    rw (p.1, p.2) (λ d kept is. no_memory (Updates (map plan_of c.args.steps.now) d) 0 c.in_err-push.field-0.0 c.in_err-push.ensures)

pub returns : goal.returns
returns c d kept is = (c.in_ok-edit.edit, c.in_ok-edit.ensures d kept is, c.in_ok-push.ensures ∙ ap (λ xs. xs ++ listed c.in_ok-edit.edit) c.new-edits.ensures.items)

use Rattle.std.proofs.lemmas.Result.{err_from_is_err_and}
use Rattle.fallowtime_commands.proofs.transferring.draft.Goals as goal

pub returns-in_err-push_changes : goal.returns-in_err-push_changes
returns-in_err-push_changes c =
    let p = err_from_is_err_and c.from_residual.result c.from_residual.ensures.1 in
    rw (p.1, p.2) (λ ds es kept same left there. c.in_err-push_changes.ensures ds es kept same left there c.new-edits.ensures.items)

pub returns : goal.returns
returns c ds es kept same left there = c.in_ok-push_changes.ensures ds es kept same left there c.new-edits.ensures.items

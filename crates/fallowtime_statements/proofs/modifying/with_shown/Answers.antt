use Rattle.fallowtime_statements.proofs.modifying.with_shown.Goals as goal

pub returns : goal.returns
returns c = (c.in_ok-shown.shown, c.in_ok-shown.ensures, c.in_ok-push.ensures.items)

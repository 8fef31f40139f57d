use Rattle.fallowtime_requests.proofs.along.steps_along.Goals as goal

pub returns-in_ok-step_at-in-Ok : goal.returns-in_ok-step_at-in-Ok
returns-in_ok-step_at-in-Ok c = c.in_ok-step_at-in-Ok.ensures c.args.operator.now c.args.path.now c.in-Ok.ensures

use Rattle.fallowtime_statements.proofs.plans.planning.distinct.Goals as goal

pub returns : goal.returns
returns c = (c.in_ok-name.name.now, c.in_ok-name.ensures, c.in_ok-statement.ensures)

use Rattle.fallowtime_statements.proofs.plans.collections.drop_indexes.Goals as goal

pub returns : goal.returns
returns c = (c.in_ok-name.name.now, c.in_ok-name.ensures, c.in_ok-statement.ensures, c.in_ok-all.ensures)

use Rattle.fallowtime_statements.proofs.plans.collections.list_collections.Goals as goal

pub returns : goal.returns
returns c = (c.in_ok-of_database.ensures, c.in_ok-statement.ensures, c.in_ok-space.ensures, c.in_ok-only.ensures)

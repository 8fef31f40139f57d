use Rattle.std.proofs.Common.{inr, refl}
use Rattle.fallowtime_statements.proofs.plans.planning.run_pipeline.Goals as goal

pub returns : goal.returns
returns c = (inr (c.in_ok-name.name.now, c.in_ok-name.ensures, c.in_ok-statement.ensures, c.in_ok-space.ensures), c.in_ok-size.ensures, refl)

use Rattle.std.proofs.Common.{Ok, Err, refl}
use Rattle.std.proofs.lemmas.Result.{err_from_is_err_and}
use Rattle.fallowtime_commands.proofs.aggregating.aggregate_in_pages.Goals as goal

pub returns-in_err-bodies-clause-reads : goal.returns-in_err-bodies-clause-reads
returns-in_err-bodies-clause-reads g c clean docs are =
    let p = err_from_is_err_and c.from_residual.result c.from_residual.ensures.1 in
    rw (p.1, p.2) (Err c.in_err-bodies.field-0.0, c.in_err-bodies.ensures.reads clean docs are, refl)

pub returns-clause-reads : goal.returns-clause-reads
returns-clause-reads g c clean docs are = (Ok c.in_ok-bodies.bodies, c.in_ok-bodies.ensures.reads clean docs are, c.make.ensures.follows)

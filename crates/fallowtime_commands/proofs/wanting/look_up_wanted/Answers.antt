use Rattle.std.proofs.Common.{refl}
use Rattle.std.proofs.lemmas.Result.{err_from_is_err_and}
use Rattle.store_model.specs.Refusal.{refusal}
use Rattle.store_model.specs.declared.error.ErrorKind.TheVariants.{Memory}
use Rattle.store_table.specs.declared.fault.Fault.TheVariants as faults
use Rattle.store_asked.proofs.AskLemmas.{answered_as, refused_as, spoiled_as}
use Rattle.fallowtime_commands.specs.Asking.{AreWanted}
use Rattle.fallowtime_commands.proofs.wanting.look_up_wanted.Goals as goal

pub returns-in_err-bodies-clause-reads : goal.returns-in_err-bodies-clause-reads
returns-in_err-bodies-clause-reads g c clean docs are =
    let p = err_from_is_err_and c.from_residual.result c.from_residual.ensures.1 in
    rw (p.1, p.2) (refused_as _ (AreWanted c.args.wanted.now) _ _ docs docs c.in_err-bodies.field-0.0 (c.in_err-bodies.ensures.reads clean docs are))

pub returns-in_err-left-clause-reads : goal.returns-in_err-left-clause-reads
returns-in_err-left-clause-reads g c clean docs are =
    let p = err_from_is_err_and c.from_residual-in_err-left.result c.from_residual-in_err-left.ensures.1 in
    rw (p.1, p.2) (spoiled_as _ (AreWanted c.args.wanted.now) _ _ docs docs c.in_ok-bodies.bodies (refusal Memory) (faults.Memory, (λ e. cc), refl) (c.in_ok-bodies.ensures.reads clean docs are))

pub returns-clause-reads : goal.returns-clause-reads
returns-clause-reads g c clean docs are =
    answered_as _ (AreWanted c.args.wanted.now) _ _ docs docs c.in_ok-bodies.bodies c.in_ok-left.left (λ ds t. (t.0, t.1, c.in_ok-left.ensures t.0 t.2)) (c.in_ok-bodies.ensures.reads clean docs are)

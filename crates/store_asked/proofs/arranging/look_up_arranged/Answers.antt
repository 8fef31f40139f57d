use Rattle.std.proofs.Common.{refl, subst}
use Rattle.std.proofs.lemmas.Result.{err_from_is_err_and}
use Rattle.store_model.specs.Refusal.{refusal}
use Rattle.store_model.specs.declared.error.ErrorKind.TheVariants.{Memory}
use Rattle.store_table.specs.declared.fault.Fault.TheVariants as faults
use Rattle.store_asked.specs.Arranged.{AreArranged}
use Rattle.store_asked.proofs.AskLemmas.{answered_as, refused_as, spoiled_as}
use Rattle.store_asked.proofs.arranging.look_up_arranged.Goals as goal

pub returns-in_err-gathered-clause-reads : goal.returns-in_err-gathered-clause-reads
returns-in_err-gathered-clause-reads g c clean docs are =
    let p = err_from_is_err_and c.from_residual.result c.from_residual.ensures.1 in
    rw (p.1, p.2) (refused_as _ (AreArranged c.args.arrangement.now) _ _ docs docs c.in_err-gathered.field-0.0 (c.in_err-gathered.ensures.reads clean docs are))

pub returns-in_err-bodies-clause-reads : goal.returns-in_err-bodies-clause-reads
returns-in_err-bodies-clause-reads g c clean docs are =
    let p = err_from_is_err_and c.from_residual-in_err-bodies.result c.from_residual-in_err-bodies.ensures.1 in
    rw (p.1, p.2) (spoiled_as _ (AreArranged c.args.arrangement.now) _ _ docs docs c.in_ok-gathered.gathered (refusal Memory) (faults.Memory, (λ e. cc), refl) (c.in_ok-gathered.ensures.reads clean docs are))

pub returns-in_err-check_rows-clause-reads : goal.returns-in_err-check_rows-clause-reads
returns-in_err-check_rows-clause-reads g c clean docs are =
    let p = err_from_is_err_and c.from_residual-in_err-check_rows.result c.from_residual-in_err-check_rows.ensures.1 in
    rw (p.1, p.2) (spoiled_as _ (AreArranged c.args.arrangement.now) _ _ docs docs c.in_ok-gathered.gathered c.in_err-check_rows.field-0.0 c.in_err-check_rows.ensures (c.in_ok-gathered.ensures.reads clean docs are))

pub returns-clause-reads : goal.returns-clause-reads
returns-clause-reads g c clean docs are =
    answered_as _ (AreArranged c.args.arrangement.now) _ _ docs docs c.in_ok-gathered.gathered c.in_ok-bodies.bodies (λ ds t. subst (λ a. AreArranged a c.in_ok-bodies.bodies ds) c.new-gathering.ensures.same (c.in_ok-bodies.ensures c.new-gathering.result ds t)) (c.in_ok-gathered.ensures.reads clean docs are)

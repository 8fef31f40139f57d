use Rattle.std.proofs.Common.{refl, subst}
use Rattle.std.proofs.lemmas.Result.{err_from_is_err_and}
use Rattle.bson_store.proofs.MoveLemmas.{moved}
use Rattle.bson_store.specs.Calls.{store_state}
use Rattle.store_model.specs.Refusal.{refusal}
use Rattle.store_model.specs.declared.error.ErrorKind.TheVariants.{Memory}
use Rattle.store_table.specs.declared.fault.Fault.TheVariants as faults
use Rattle.store_asked.specs.Arranged.{AreArranged}
use Rattle.store_asked.proofs.AskLemmas.{answered_as, refused_as, spoiled_as}
use Rattle.store_asked.proofs.arranging.gather.Goals as goal

pub returns-in_err-gathered-clause-moves : goal.returns-in_err-gathered-clause-moves
returns-in_err-gathered-clause-moves g c =
    let p = err_from_is_err_and c.from_residual.result c.from_residual.ensures.1 in
    rw (p.1, p.2) (moved (store_state g.S.Store c.args.store.now) (store_state g.S.Store c.take_answers.new.store) _ _ c.in_err-gathered.ensures.moves (λ docs after h. refused_as _ (AreArranged c.args.arrangement.now) _ _ docs after c.in_err-gathered.field-0.0 h))

pub returns-in_err-bodies-clause-moves : goal.returns-in_err-bodies-clause-moves
returns-in_err-bodies-clause-moves g c =
    let p = err_from_is_err_and c.from_residual-in_err-bodies.result c.from_residual-in_err-bodies.ensures.1 in
    rw (p.1, p.2) (moved (store_state g.S.Store c.args.store.now) (store_state g.S.Store c.take_answers.new.store) _ _ c.in_ok-gathered.ensures.moves (λ docs after h. spoiled_as _ (AreArranged c.args.arrangement.now) _ _ docs after c.in_ok-gathered.gathered (refusal Memory) (faults.Memory, (λ e. cc), refl) h))

pub returns-clause-moves : goal.returns-clause-moves
returns-clause-moves g c =
    moved (store_state g.S.Store c.args.store.now) (store_state g.S.Store c.take_answers.new.store) _ _ c.in_ok-gathered.ensures.moves (λ docs after h. answered_as _ (AreArranged c.args.arrangement.now) _ _ docs after c.in_ok-gathered.gathered c.in_ok-bodies.bodies (λ ds t. subst (λ a. AreArranged a c.in_ok-bodies.bodies ds) c.new-gathering.ensures.same (c.in_ok-bodies.ensures c.new-gathering.result ds t)) h)

use Rattle.std.proofs.Common.{refl}
use Rattle.std.proofs.lemmas.Result.{err_from_is_err_and}
use Rattle.bson_store.proofs.MoveLemmas.{moved}
use Rattle.bson_store.specs.Calls.{store_state}
use Rattle.store_model.specs.Refusal.{refusal}
use Rattle.store_model.specs.declared.error.ErrorKind.TheVariants.{Memory}
use Rattle.store_table.specs.declared.fault.Fault.TheVariants as faults
use Rattle.store_asked.proofs.AskLemmas.{drafted_as, drafted_refused, drafted_spoiled}
use Rattle.fallowtime_commands.specs.Asking.{AreWanted}
use Rattle.fallowtime_commands.proofs.session.asking.find_wanted.Goals as goal

pub returns-in_err-bodies-clause-moves : goal.returns-in_err-bodies-clause-moves
returns-in_err-bodies-clause-moves g c =
    let p = err_from_is_err_and c.from_residual.result c.from_residual.ensures.1 in
    rw (p.1, p.2) (moved (store_state g.S.Store c.args.store.now) (store_state g.S.Store c.find_drafted.new.store) _ _ c.in_err-bodies.ensures.moves (λ docs after h. drafted_refused _ (AreWanted c.args.wanted.now) _ _ _ docs after c.in_err-bodies.field-0.0 h))

pub returns-in_err-left-clause-moves : goal.returns-in_err-left-clause-moves
returns-in_err-left-clause-moves g c =
    let p = err_from_is_err_and c.from_residual-in_err-left.result c.from_residual-in_err-left.ensures.1 in
    rw (p.1, p.2) (moved (store_state g.S.Store c.args.store.now) (store_state g.S.Store c.find_drafted.new.store) _ _ c.in_ok-bodies.ensures.moves (λ docs after h. drafted_spoiled _ (AreWanted c.args.wanted.now) _ _ _ docs after c.in_ok-bodies.bodies (refusal Memory) (faults.Memory, (λ e. cc), refl) h))

pub returns-clause-moves : goal.returns-clause-moves
returns-clause-moves g c =
    moved (store_state g.S.Store c.args.store.now) (store_state g.S.Store c.find_drafted.new.store) _ _ c.in_ok-bodies.ensures.moves (λ docs after h. drafted_as _ (AreWanted c.args.wanted.now) _ _ _ docs after c.in_ok-bodies.bodies c.in_ok-left.left (λ ds t. (t.0, t.1, c.in_ok-left.ensures t.0 t.2)) h)

use Rattle.std.proofs.lemmas.Result.{err_from_is_err_and}
use Rattle.bson_store.proofs.MoveLemmas.{moved}
use Rattle.bson_store.specs.Calls.{store_state}
use Rattle.store_asked.proofs.AskLemmas.{drafted_as, drafted_refused}
use Rattle.fallowtime_commands.specs.Finding.{AreFirst}
use Rattle.fallowtime_commands.proofs.FoundLemmas.{first_of_all}
use Rattle.fallowtime_commands.proofs.session.asking.find_first.Goals as goal

pub returns-in_err-bodies-clause-moves : goal.returns-in_err-bodies-clause-moves
returns-in_err-bodies-clause-moves g c =
    let p = err_from_is_err_and c.from_residual.result c.from_residual.ensures.1 in
    rw (p.1, p.2) (moved (store_state g.S.Store c.args.store.now) (store_state g.S.Store c.find_drafted.new.store) _ _ c.in_err-bodies.ensures.moves (λ docs after h. drafted_refused _ (AreFirst c.args.arrangement.now) _ _ _ docs after c.in_err-bodies.field-0.0 h))

pub returns-clause-moves : goal.returns-clause-moves
returns-clause-moves g c =
    moved (store_state g.S.Store c.args.store.now) (store_state g.S.Store c.find_drafted.new.store) _ _ c.in_ok-bodies.ensures.moves
    (λ docs after h. drafted_as _ (AreFirst c.args.arrangement.now) _ _ _ docs after c.in_ok-bodies.bodies c.into_window.result (λ ds t. first_of_all c.args.arrangement.now c.in_ok-bodies.bodies c.into_window.result ds c.into_window.ensures t) h)

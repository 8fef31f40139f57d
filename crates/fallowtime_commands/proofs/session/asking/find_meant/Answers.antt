use Rattle.std.proofs.lemmas.Result.{err_from_is_err_and}
use Rattle.bson_store.proofs.MoveLemmas.{moved}
use Rattle.bson_store.specs.Calls.{store_state}
use Rattle.store_asked.proofs.AskLemmas.{drafted_as, drafted_refused}
use Rattle.fallowtime_commands.specs.Asking.{AreChosen}
use Rattle.fallowtime_commands.proofs.session.asking.find_meant.Goals as goal

pub returns-in_err-meant-clause-moves : goal.returns-in_err-meant-clause-moves
returns-in_err-meant-clause-moves g c =
    let p = err_from_is_err_and c.from_residual.result c.from_residual.ensures.1 in
    rw (p.1, p.2) (moved (store_state g.S.Store c.args.store.now) (store_state g.S.Store c.take_drafted.new.store) _ _ c.in_err-meant.ensures.moves (λ docs after h. drafted_refused _ (AreChosen c.args.many) _ _ _ docs after c.in_err-meant.field-0.0 h))

pub returns-clause-moves : goal.returns-clause-moves
returns-clause-moves g c =
    moved (store_state g.S.Store c.args.store.now) (store_state g.S.Store c.take_drafted.new.store) _ _ c.in_ok-meant.ensures.moves
    (λ docs after h. drafted_as _ (AreChosen c.args.many) _ _ _ docs after c.in_ok-meant.meant c.in_ok-meant.meant.copies.bodies (λ ds t. t.1) h)

use Rattle.std.proofs.lemmas.Result.{err_from_is_err_and}
use Rattle.sqlite.proofs.StateLemmas.{survives_then}
use Rattle.bson_store.specs.Calls.{store_state}
use Rattle.fallowtime_commands.proofs.TransferLemmas.{gathered_moves, others_unread_moves, unread_moves}
use Rattle.fallowtime_commands.proofs.transferring.gather.Goals as goal

pub returns-in_err-bodies-clause-moves : goal.returns-in_err-bodies-clause-moves
returns-in_err-bodies-clause-moves g c =
    let p = err_from_is_err_and c.from_residual.result c.from_residual.ensures.1 in
    rw (p.1, p.2) (unread_moves c.args.name.now c.args.how (store_state g.S.Store c.args.store.now) (store_state g.S.Store c.bodies_in.new.store) c.in_err-bodies.field-0.0 c.in_err-bodies.ensures.moves)

pub returns-in_err-others-clause-moves : goal.returns-in_err-others-clause-moves
returns-in_err-others-clause-moves g c =
    let p = err_from_is_err_and c.from_residual-in_err-others.result c.from_residual-in_err-others.ensures.1 in
    rw (p.1, p.2) (others_unread_moves c.args.name.now c.args.how (store_state g.S.Store c.args.store.now) (store_state g.S.Store c.bodies_in.new.store) (store_state g.S.Store c.displaced_bodies.new.store) c.in_ok-bodies.bodies c.in_ok-bodies.ensures.moves c.in_err-others.field-0.0 c.in_err-others.ensures.moves)

pub returns-in_err-others-clause-crash : goal.returns-in_err-others-clause-crash
returns-in_err-others-clause-crash g c = survives_then (store_state g.S.Store c.args.store.now) (store_state g.S.Store c.bodies_in.new.store) (store_state g.S.Store c.displaced_bodies.new.store) (λ _. ⊥) (λ _. ⊥) (λ _. ⊥) (λ _ db none. none) (λ _ db none. none) c.in_ok-bodies.ensures.crash c.in_err-others.ensures.crash

pub returns-clause-moves : goal.returns-clause-moves
returns-clause-moves g c = gathered_moves c.args.name.now c.args.how (store_state g.S.Store c.args.store.now) (store_state g.S.Store c.bodies_in.new.store) (store_state g.S.Store c.displaced_bodies.new.store) c.in_ok-bodies.bodies c.in_ok-bodies.ensures.moves c.in_ok-others.others c.in_ok-others.ensures.moves

pub returns-clause-crash : goal.returns-clause-crash
returns-clause-crash g c = survives_then (store_state g.S.Store c.args.store.now) (store_state g.S.Store c.bodies_in.new.store) (store_state g.S.Store c.displaced_bodies.new.store) (λ _. ⊥) (λ _. ⊥) (λ _. ⊥) (λ _ db none. none) (λ _ db none. none) c.in_ok-bodies.ensures.crash c.in_ok-others.ensures.crash

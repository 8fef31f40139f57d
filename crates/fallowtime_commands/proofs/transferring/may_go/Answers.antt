use Rattle.std.proofs.Common.{◌∙◌, arith, sym}
use Rattle.std.proofs.lemmas.Result.{err_from_is_err_and}
use Rattle.sqlite.proofs.StateLemmas.{survives_then}
use Rattle.bson_store.specs.Calls.{store_state}
use Rattle.fallowtime_commands.proofs.TransferLemmas.{absent, ready, taken, unknown, untold}
use Rattle.fallowtime_commands.proofs.transferring.may_go.Goals as goal

pub returns-in_err-number-clause-moves : goal.returns-in_err-number-clause-moves
returns-in_err-number-clause-moves g c =
    let p = err_from_is_err_and c.from_residual.result c.from_residual.ensures.1 in
    rw (p.1, p.2) (unknown c.args.name.now c.args.new c.args.drops (store_state g.S.Store c.args.store.now) (store_state g.S.Store c.number_in.new.store) c.in_err-number.field-0.0 c.in_err-number.ensures.moves)

pub returns-then-number-eq0-clause-moves : goal.returns-then-number-eq0-clause-moves
returns-then-number-eq0-clause-moves g c = absent c.args.name.now c.args.new c.args.drops (store_state g.S.Store c.args.store.now) (store_state g.S.Store c.number_in.new.store) c.in_ok-number.number c.from.result c.if-number-eq0.true c.from.ensures c.in_ok-number.ensures.moves

pub returns-in_err-others-clause-moves : goal.returns-in_err-others-clause-moves
returns-in_err-others-clause-moves g c =
    let p = err_from_is_err_and c.from_residual-in_err-others.result c.from_residual-in_err-others.ensures.1 in
    let other = c.if-number-eq0.false in
    rw (p.1, p.2) (untold c.args.name.now c.args.new c.args.drops (store_state g.S.Store c.args.store.now) (store_state g.S.Store c.number_in.new.store) (store_state g.S.Store c.number_in-2.new.store) c.in_ok-number.number (omega (arith, other)) c.in_ok-number.ensures.moves c.in_err-others.field-0.0 c.in_err-others.ensures.moves)

pub returns-in_err-others-clause-crash : goal.returns-in_err-others-clause-crash
returns-in_err-others-clause-crash g c = survives_then (store_state g.S.Store c.args.store.now) (store_state g.S.Store c.number_in.new.store) (store_state g.S.Store c.number_in-2.new.store) (λ _. ⊥) (λ _. ⊥) (λ _. ⊥) (λ _ db none. none) (λ _ db none. none) c.in_ok-number.ensures.crash c.in_err-others.ensures.crash

pub returns-then-is_taken-clause-moves : goal.returns-then-is_taken-clause-moves
returns-then-is_taken-clause-moves g c =
    let other = c.if-number-eq0.false in
    taken c.args.name.now c.args.new c.args.drops (store_state g.S.Store c.args.store.now) (store_state g.S.Store c.number_in.new.store) (store_state g.S.Store c.number_in-2.new.store) c.in_ok-number.number (omega (arith, other)) c.in_ok-number.ensures.moves c.in_ok-others.others c.from-then-is_taken.result (sym c.is_taken.ensures ∙ c.if-is_taken.true) c.from-then-is_taken.ensures c.in_ok-others.ensures.moves

pub returns-then-is_taken-clause-crash : goal.returns-then-is_taken-clause-crash
returns-then-is_taken-clause-crash g c = survives_then (store_state g.S.Store c.args.store.now) (store_state g.S.Store c.number_in.new.store) (store_state g.S.Store c.number_in-2.new.store) (λ _. ⊥) (λ _. ⊥) (λ _. ⊥) (λ _ db none. none) (λ _ db none. none) c.in_ok-number.ensures.crash c.in_ok-others.ensures.crash

pub returns-clause-moves : goal.returns-clause-moves
returns-clause-moves g c =
    let other = c.if-number-eq0.false in
    ready c.args.name.now c.args.new c.args.drops (store_state g.S.Store c.args.store.now) (store_state g.S.Store c.number_in.new.store) (store_state g.S.Store c.number_in-2.new.store) c.in_ok-number.number (omega (arith, other)) c.in_ok-number.ensures.moves c.in_ok-others.others (sym c.is_taken.ensures ∙ c.if-is_taken.false) c.in_ok-others.ensures.moves

pub returns-clause-crash : goal.returns-clause-crash
returns-clause-crash g c = survives_then (store_state g.S.Store c.args.store.now) (store_state g.S.Store c.number_in.new.store) (store_state g.S.Store c.number_in-2.new.store) (λ _. ⊥) (λ _. ⊥) (λ _. ⊥) (λ _ db none. none) (λ _ db none. none) c.in_ok-number.ensures.crash c.in_ok-others.ensures.crash

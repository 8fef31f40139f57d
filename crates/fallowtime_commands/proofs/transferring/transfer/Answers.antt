use Rattle.std.proofs.Common.{Err}
use Rattle.std.proofs.lemmas.Result.{err_from_is_err_and}
use Rattle.bson_store.specs.Calls.{store_state}
use Rattle.fallowtime_commands.specs.Performing.{reply_of}
use Rattle.fallowtime_commands.proofs.ChangeLemmas.{found_then}
use Rattle.fallowtime_commands.proofs.TransferLemmas.{carried_leaves, carried_moves, untested_leaves, untested_moves}
use Rattle.fallowtime_commands.proofs.transferring.transfer.Goals as goal

pub returns-in_err-test-clause-moves : goal.returns-in_err-test-clause-moves
returns-in_err-test-clause-moves g c =
    let p = err_from_is_err_and c.from_residual.result c.from_residual.ensures.1 in
    rw (p.1, p.2) (untested_moves c.args.name.now c.args.how (store_state g.S.Store c.args.store.now) (store_state g.S.Store c.test.new.store) c.in_err-test.field-0.0 c.in_err-test.ensures.moves)

pub returns-in_err-test-clause-crash : goal.returns-in_err-test-clause-crash
returns-in_err-test-clause-crash g c =
    let p = err_from_is_err_and c.from_residual.result c.from_residual.ensures.1 in
    rw p.1 (untested_leaves c.args.name.now c.args.how (store_state g.S.Store c.args.store.now) (store_state g.S.Store c.test.new.store) (reply_of (Err p.0)) tt c.in_err-test.ensures.crash)

pub returns-clause-moves : goal.returns-clause-moves
returns-clause-moves g c = carried_moves c.args.name.now c.args.how (store_state g.S.Store c.args.store.now) (store_state g.S.Store c.test.new.store) (store_state g.S.Store c.carry.new.store) c.carry.result c.in_ok-test.ensures.moves c.carry.ensures.moves

pub returns-clause-open : goal.returns-clause-open
returns-clause-open g c = found_then (store_state g.S.Store c.args.store.now) (store_state g.S.Store c.test.new.store) (store_state g.S.Store c.carry.new.store) _ _ c.carry.result c.in_ok-test.ensures.moves c.carry.ensures.moves c.carry.ensures.open

pub returns-clause-crash : goal.returns-clause-crash
returns-clause-crash g c = carried_leaves c.args.name.now c.args.how (store_state g.S.Store c.args.store.now) (store_state g.S.Store c.test.new.store) (store_state g.S.Store c.carry.new.store) c.carry.result _ c.in_ok-test.ensures.moves c.in_ok-test.ensures.crash c.carry.ensures.moves c.carry.ensures.crash

use Rattle.std.proofs.Common.{Err, ◌∙◌}
use Rattle.std.proofs.lemmas.Result.{err_from_is_err_and}
use Rattle.bson_store.specs.Calls.{store_state}
use Rattle.fallowtime_commands.specs.Performing.{reply_of}
use Rattle.fallowtime_commands.proofs.ChangeLemmas.{found_then}
use Rattle.fallowtime_commands.proofs.TransferLemmas.{made_leaves, made_moves, refused_leaves, undrafted_moves, ungathered_moves}
use Rattle.fallowtime_commands.proofs.transferring.carry.Goals as goal

pub returns-in_err-bodies-clause-moves : goal.returns-in_err-bodies-clause-moves
returns-in_err-bodies-clause-moves g c =
    let p = err_from_is_err_and c.from_residual.result c.from_residual.ensures.1 in
    rw (p.1, p.2) (ungathered_moves c.args.name.now c.args.how (store_state g.S.Store c.args.store.now) (store_state g.S.Store c.gather.new.store) c.in_err-bodies.field-0.0 c.in_err-bodies.ensures.moves)

pub returns-in_err-bodies-clause-crash : goal.returns-in_err-bodies-clause-crash
returns-in_err-bodies-clause-crash g c =
    let p = err_from_is_err_and c.from_residual.result c.from_residual.ensures.1 in
    rw p.1 (refused_leaves c.args.name.now c.args.how (store_state g.S.Store c.args.store.now) (store_state g.S.Store c.gather.new.store) (reply_of (Err p.0)) tt c.in_err-bodies.ensures.crash)

pub returns-in-Ok-clause-moves : goal.returns-in-Ok-clause-moves
returns-in-Ok-clause-moves g c =
    made_moves c.args.name.now c.args.how (store_state g.S.Store c.args.store.now) (store_state g.S.Store c.gather.new.store) (store_state g.S.Store c.make-done.new.store) c.in_ok-bodies.bodies c.in_ok-bodies.others c.in-Ok.edits.items c.len.result c.make-done.result (c.len.ensures ∙ c.in_ok-bodies.bodies.ok.0) (rw (c.as_slice.ensures.value, c.as_slice-2.ensures.value) at c.in-Ok.ensures)
    c.in_ok-bodies.ensures.moves (rw c.as_slice-in-Ok.ensures.value at c.make-done.ensures.moves)

pub returns-in-Ok-clause-crash : goal.returns-in-Ok-clause-crash
returns-in-Ok-clause-crash g c =
    made_leaves c.args.name.now c.args.how (store_state g.S.Store c.args.store.now) (store_state g.S.Store c.gather.new.store) (store_state g.S.Store c.make-done.new.store) c.in_ok-bodies.bodies c.in_ok-bodies.others c.in-Ok.edits.items _ c.make-done.result (rw (c.as_slice.ensures.value, c.as_slice-2.ensures.value) at c.in-Ok.ensures)
    c.in_ok-bodies.ensures.moves c.in_ok-bodies.ensures.crash (rw c.as_slice-in-Ok.ensures.value at c.make-done.ensures.moves) (rw c.as_slice-in-Ok.ensures.value at c.make-done.ensures.crash)

pub returns-in-Ok-clause-open : goal.returns-in-Ok-clause-open
returns-in-Ok-clause-open g c = found_then (store_state g.S.Store c.args.store.now) (store_state g.S.Store c.gather.new.store) (store_state g.S.Store c.make-done.new.store) _ _ c.make-done.result c.in_ok-bodies.ensures.moves c.make-done.ensures.moves c.make-done.ensures.open

pub returns-clause-moves : goal.returns-clause-moves
returns-clause-moves g c = undrafted_moves c.args.name.now c.args.how (store_state g.S.Store c.args.store.now) (store_state g.S.Store c.gather.new.store) c.in_ok-bodies.bodies c.in_ok-bodies.others c.in-Err.error (rw (c.as_slice.ensures.value, c.as_slice-2.ensures.value) at c.in-Err.ensures) c.in_ok-bodies.ensures.moves

pub returns-clause-crash : goal.returns-clause-crash
returns-clause-crash g c = refused_leaves c.args.name.now c.args.how (store_state g.S.Store c.args.store.now) (store_state g.S.Store c.gather.new.store) (reply_of (Err c.in-Err.error)) tt c.in_ok-bodies.ensures.crash

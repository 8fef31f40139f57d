use Rattle.std.proofs.Common.{Err, inl, inr}
use Rattle.std.proofs.lemmas.Result.{err_from_is_err_and}
use Rattle.bson_model.specs.View.{content}
use Rattle.store_model.specs.State.{done}
use Rattle.bson_store.specs.Calls.{store_state}
use Rattle.bson_store.specs.Refusals.{as_done, reply_by}
use Rattle.fallowtime_commands.proofs.PutLemmas.{inserted, inserted_leaves, other_kind, put_stopped, put_stopped_leaves, replaced}
use Rattle.fallowtime_commands.proofs.storing.put.Goals as goal

pub returns-in_err-kept-clause-moves : goal.returns-in_err-kept-clause-moves
returns-in_err-kept-clause-moves g c =
    let p = err_from_is_err_and c.from_residual.result c.from_residual.ensures.1 in
    rw (p.1, p.2) (put_stopped c.args.name.now (content c.args.document.now) (store_state g.S.Store c.args.store.now) c.in_err-kept.field-0.0 c.in_err-kept.ensures)

pub returns-in_err-kept-clause-crash : goal.returns-in_err-kept-clause-crash
returns-in_err-kept-clause-crash g c =
    let p = err_from_is_err_and c.from_residual.result c.from_residual.ensures.1 in
    rw (p.1, p.2) (put_stopped_leaves c.args.name.now (content c.args.document.now) (store_state g.S.Store c.args.store.now) c.in_err-kept.field-0.0 c.in_err-kept.ensures)

pub returns-in-Ok-clause-moves : goal.returns-in-Ok-clause-moves
returns-in-Ok-clause-moves g c =
    replaced c.args.name.now (content c.args.document.now) (store_state g.S.Store c.args.store.now) (store_state g.S.Store c.replace_raw.new.self) done tt c.in_ok-kept.ensures.1 (rw (c.as_slice-bytes.ensures.value, c.in_ok-kept.ensures.0) at c.in-Ok.ensures.moves)

pub returns-in-Ok-clause-crash : goal.returns-in-Ok-clause-crash
returns-in-Ok-clause-crash g c = inr (inl (tt, (rw (c.as_slice-bytes.ensures.value, c.in_ok-kept.ensures.0) at c.in-Ok.ensures.crash)))

pub returns-in-NotFound-clause-moves : goal.returns-in-NotFound-clause-moves
returns-in-NotFound-clause-moves g c =
    inserted c.args.name.now (content c.args.document.now) (store_state g.S.Store c.args.store.now) (store_state g.S.Store c.replace_raw.new.self) (store_state g.S.Store c.insert_raw.new.self) c.in-Err.error.document (reply_by as_done c.insert_raw.result) c.in_ok-kept.ensures.1
    (rw (c.as_slice-bytes.ensures.value, c.in_ok-kept.ensures.0, c.in-NotFound.is) at c.in-Err.ensures.moves) (rw (c.as_slice-bytes.ensures.value, c.in_ok-kept.ensures.0) at c.insert_raw.ensures.moves)

pub returns-in-NotFound-clause-crash : goal.returns-in-NotFound-clause-crash
returns-in-NotFound-clause-crash g c =
    inserted_leaves c.args.name.now (content c.args.document.now) (store_state g.S.Store c.args.store.now) (store_state g.S.Store c.replace_raw.new.self) (store_state g.S.Store c.insert_raw.new.self) c.in-Err.error.document (reply_by as_done c.insert_raw.result)
    (rw (c.as_slice-bytes.ensures.value, c.in_ok-kept.ensures.0, c.in-NotFound.is) at c.in-Err.ensures.moves) (rw (c.as_slice-bytes.ensures.value, c.in_ok-kept.ensures.0, c.in-NotFound.is) at c.in-Err.ensures.crash)
    (rw (c.as_slice-bytes.ensures.value, c.in_ok-kept.ensures.0) at c.insert_raw.ensures.moves) (rw (c.as_slice-bytes.ensures.value, c.in_ok-kept.ensures.0) at c.insert_raw.ensures.crash)

pub returns-clause-moves : goal.returns-clause-moves
returns-clause-moves g c =
    replaced c.args.name.now (content c.args.document.now) (store_state g.S.Store c.args.store.now) (store_state g.S.Store c.replace_raw.new.self) (reply_by as_done (Err c.in-Err.error))
    (other_kind c.in-Err.error.kind c.in-Err.error.document c.in_default.not-NotFound) c.in_ok-kept.ensures.1 (rw (c.as_slice-bytes.ensures.value, c.in_ok-kept.ensures.0) at c.in-Err.ensures.moves)

pub returns-clause-crash : goal.returns-clause-crash
returns-clause-crash g c =
    inr (inl (other_kind c.in-Err.error.kind c.in-Err.error.document c.in_default.not-NotFound, (rw (c.as_slice-bytes.ensures.value, c.in_ok-kept.ensures.0) at c.in-Err.ensures.crash)))

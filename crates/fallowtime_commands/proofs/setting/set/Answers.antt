use Rattle.std.proofs.lemmas.Result.{err_from_is_err_and}
use Rattle.bson_model.specs.View.{content, view}
use Rattle.bson_store.specs.Calls.{store_state}
use Rattle.bson_store.specs.Refusals.{as_done, reply_by}
use Rattle.fallowtime_commands.proofs.SetLemmas.{replaced_leaves, replaced_moves, ungot_moves, unmade_moves}
use Rattle.fallowtime_commands.proofs.setting.set.Goals as goal

pub returns-in_err-body-clause-moves : goal.returns-in_err-body-clause-moves
returns-in_err-body-clause-moves g c =
    let p = err_from_is_err_and c.from_residual.result c.from_residual.ensures.1 in
    rw (p.1, p.2) (ungot_moves c.args.name.now (view c.args.id.now) c.args.key.now (view c.args.value) (store_state g.S.Store c.args.store.now) (store_state g.S.Store c.get_raw.new.self) c.in_err-body.field-0.0.kind c.in_err-body.field-0.0.document c.in_err-body.ensures.moves)

pub returns-in_err-document-clause-moves : goal.returns-in_err-document-clause-moves
returns-in_err-document-clause-moves g c =
    let p = err_from_is_err_and c.from_residual-in_err-document.result c.from_residual-in_err-document.ensures.1 in
    rw (p.1, p.2) (unmade_moves c.args.name.now (view c.args.id.now) c.args.key.now (view c.args.value) (store_state g.S.Store c.args.store.now) (store_state g.S.Store c.get_raw.new.self) c.in_ok-body.body.items c.in_err-document.field-0.0
    (λ d kept is. c.in_err-document.ensures d kept (rw c.as_slice.ensures.value is)) c.in_ok-body.ensures.moves)

pub returns-clause-moves : goal.returns-clause-moves
returns-clause-moves g c =
    replaced_moves c.args.name.now (view c.args.id.now) c.args.key.now (view c.args.value) (store_state g.S.Store c.args.store.now) (store_state g.S.Store c.get_raw.new.self) (store_state g.S.Store c.replace.new.store) c.in_ok-body.body.items (content c.in_ok-document.document) (reply_by as_done c.replace.result)
    (λ d kept is. c.in_ok-document.ensures d kept (rw c.as_slice.ensures.value is)) c.in_ok-body.ensures.moves c.replace.ensures.moves

pub returns-clause-crash : goal.returns-clause-crash
returns-clause-crash g c =
    replaced_leaves c.args.name.now (view c.args.id.now) c.args.key.now (view c.args.value) (store_state g.S.Store c.args.store.now) (store_state g.S.Store c.get_raw.new.self) (store_state g.S.Store c.replace.new.store) c.in_ok-body.body.items (content c.in_ok-document.document) (reply_by as_done c.replace.result)
    (λ d kept is. c.in_ok-document.ensures d kept (rw c.as_slice.ensures.value is)) c.in_ok-body.ensures.moves c.in_ok-body.ensures.crash c.replace.ensures.moves c.replace.ensures.crash

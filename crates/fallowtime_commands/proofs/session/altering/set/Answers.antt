use Rattle.std.proofs.Common.{Ok, Err, rules}
use Rattle.std.proofs.lemmas.Result.{err_from_is_err_and}
use Rattle.bson_model.specs.View.{view}
use Rattle.bson_store.specs.Calls.{store_state}
use Rattle.bson_store.proofs.MoveLemmas.{rests, moved, moved_twice}
use Rattle.bson_store.specs.Drafting.{GetsDrafted}
use Rattle.bson_store.specs.Whole.{EditsOne}
use Rattle.fallowtime_commands.proofs.SettingLemmas.{set_bad, set_done, set_refused, set_ungot, set_unmade}
use Rattle.fallowtime_commands.proofs.session.altering.set.Goals as goal

pub returns-in_err-body-clause-moves : goal.returns-in_err-body-clause-moves
returns-in_err-body-clause-moves g c =
    let p = err_from_is_err_and c.from_residual.result c.from_residual.ensures.1 in
    rw (p.1, p.2) (moved (store_state g.S.Store c.args.store.now) (store_state g.S.Store c.get_drafted.new.store) (GetsDrafted c.args.name.now (view c.args.id.now) c.args.edits.now.draft (Err c.in_err-body.field-0.0)) _ c.in_err-body.ensures.moves (λ docs after h. set_ungot c.args.name.now c.args.id.now c.args.key c.args.value.now c.args.edits.now.draft docs after c.in_err-body.field-0.0 h))

pub returns-in_err-edit-clause-moves : goal.returns-in_err-edit-clause-moves
returns-in_err-edit-clause-moves g c =
    let p = err_from_is_err_and c.from_residual-in_err-edit.result c.from_residual-in_err-edit.ensures.1 in
    rw (p.1, p.2) (moved (store_state g.S.Store c.args.store.now) (store_state g.S.Store c.get_drafted.new.store) (GetsDrafted c.args.name.now (view c.args.id.now) c.args.edits.now.draft (Ok c.in_ok-body.body)) _ c.in_ok-body.ensures.moves
    (λ docs after h. set_unmade c.args.name.now c.args.id.now c.args.key c.args.value.now c.in_ok-body.body c.args.edits.now.draft docs after c.in_err-edit.field-0.0 (λ d kept is. c.in_err-edit.ensures d kept (rw c.as_slice.ensures.value is)) h))

pub returns-in_err-put_edit-clause-moves : goal.returns-in_err-put_edit-clause-moves
returns-in_err-put_edit-clause-moves g c =
    let p = err_from_is_err_and c.from_residual-in_err-put_edit.result c.from_residual-in_err-put_edit.ensures.1 in
    rw (p.1, p.2) (moved_twice (store_state g.S.Store c.args.store.now) (store_state g.S.Store c.get_drafted.new.store) (store_state g.S.Store c.put_edit.new.store) (GetsDrafted c.args.name.now (view c.args.id.now) c.args.edits.now.draft (Ok c.in_ok-body.body)) (EditsOne c.in_ok-edit.edit (Err c.in_err-put_edit.field-0.0) c.args.edits.now.draft c.put_edit.new.edits.draft) _ c.in_ok-body.ensures.moves c.in_err-put_edit.ensures.moves
    (λ docs mid after h k. set_refused c.args.name.now c.args.id.now c.args.key c.args.value.now c.in_ok-body.body c.in_ok-edit.edit (λ d kept is. c.in_ok-edit.ensures d kept (rw c.as_slice.ensures.value is)) c.in_err-put_edit.field-0.0 c.args.edits.now.draft c.put_edit.new.edits.draft docs mid after h k))

pub returns-clause-moves : goal.returns-clause-moves
returns-clause-moves g c =
    moved_twice (store_state g.S.Store c.args.store.now) (store_state g.S.Store c.get_drafted.new.store) (store_state g.S.Store c.put_edit.new.store) (GetsDrafted c.args.name.now (view c.args.id.now) c.args.edits.now.draft (Ok c.in_ok-body.body)) (EditsOne c.in_ok-edit.edit (Ok tt) c.args.edits.now.draft c.put_edit.new.edits.draft) _ c.in_ok-body.ensures.moves c.in_ok-put_edit.ensures.moves
    (λ docs mid after h k. set_done c.args.name.now c.args.id.now c.args.key c.args.value.now c.in_ok-body.body c.in_ok-edit.edit (λ d kept is. c.in_ok-edit.ensures d kept (rw c.as_slice.ensures.value is)) c.args.edits.now.draft c.put_edit.new.edits.draft docs mid after h k)

pub returns-then-not-can_be_set-clause-moves : goal.returns-then-not-can_be_set-clause-moves
returns-then-not-can_be_set-clause-moves g c =
    rests (store_state g.S.Store c.args.store.now) _ (λ docs. set_bad c.args.name.now c.args.id.now c.args.key c.args.value.now c.args.edits.now.draft docs c.unsettable.result (search rules) c.unsettable.ensures)

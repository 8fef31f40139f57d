use Rattle.std.proofs.Common.{Ok, Err}
use Rattle.std.proofs.lemmas.Result.{err_from_is_err_and}
use Rattle.bson_store.specs.Calls.{store_state}
use Rattle.bson_store.proofs.MoveLemmas.{rests, moved}
use Rattle.bson_store.specs.Whole.{EditsOne}
use Rattle.fallowtime_commands.proofs.RequestLemmas.{replace_done, replace_refused, replace_unmade}
use Rattle.fallowtime_commands.proofs.session.drafting.replace.Goals as goal

pub returns-in_err-edit-clause-moves : goal.returns-in_err-edit-clause-moves
returns-in_err-edit-clause-moves g c =
    let p = err_from_is_err_and c.from_residual.result c.from_residual.ensures.1 in
    rw (p.1, p.2) (rests (store_state g.S.Store c.args.store.now) _ (λ docs. replace_unmade c.args.name.now c.args.document.now c.args.edits.now.draft docs c.in_err-edit.field-0.0 c.in_err-edit.ensures))

pub returns-in_err-put_edit-clause-moves : goal.returns-in_err-put_edit-clause-moves
returns-in_err-put_edit-clause-moves g c =
    let p = err_from_is_err_and c.from_residual-in_err-put_edit.result c.from_residual-in_err-put_edit.ensures.1 in
    rw (p.1, p.2) (moved (store_state g.S.Store c.args.store.now) (store_state g.S.Store c.put_edit.new.store) (EditsOne c.in_ok-edit.edit (Err c.in_err-put_edit.field-0.0) c.args.edits.now.draft c.put_edit.new.edits.draft) _ c.in_err-put_edit.ensures.moves (λ docs after h. replace_refused c.args.name.now c.args.document.now c.in_ok-edit.edit c.in_ok-edit.ensures.0 c.args.edits.now.draft c.put_edit.new.edits.draft docs after c.in_ok-edit.ensures.1 c.in_err-put_edit.field-0.0 h))

pub returns-clause-moves : goal.returns-clause-moves
returns-clause-moves g c =
    moved (store_state g.S.Store c.args.store.now) (store_state g.S.Store c.put_edit.new.store) (EditsOne c.in_ok-edit.edit (Ok tt) c.args.edits.now.draft c.put_edit.new.edits.draft) _ c.in_ok-put_edit.ensures.moves (λ docs after h. replace_done c.args.name.now c.args.document.now c.in_ok-edit.edit c.in_ok-edit.ensures.0 c.args.edits.now.draft c.put_edit.new.edits.draft docs after c.in_ok-edit.ensures.1 h)

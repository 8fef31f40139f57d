use Rattle.std.proofs.Common.{Ok, Err, refl}
use Rattle.store_model.specs.Refusal.{refusal}
use Rattle.store_model.specs.declared.error.ErrorKind.TheVariants.{Memory}
use Rattle.fallowtime_requests.specs.declared.request.Request.TheVariants as request
use Rattle.std.proofs.lemmas.Result.{err_from_is_err_and}
use Rattle.bson_store.specs.Calls.{store_state}
use Rattle.bson_store.proofs.MoveLemmas.{rests, moved}
use Rattle.bson_store.specs.Whole.{EditsOne}
use Rattle.fallowtime_commands.proofs.RequestLemmas.{out_of_memory, remove_done, remove_refused}
use Rattle.fallowtime_commands.proofs.session.drafting.remove.Goals as goal

pub returns-in_err-edit-clause-moves : goal.returns-in_err-edit-clause-moves
returns-in_err-edit-clause-moves g c =
    let p = err_from_is_err_and c.from_residual.result c.from_residual.ensures.1 in
    rw (p.1, p.2) (rests (store_state g.S.Store c.args.store.now) _ (λ docs. out_of_memory c.args.name.now (request.Remove c.args.id.now) (refusal Memory) c.args.edits.now.draft c.args.edits.now.draft docs docs refl refl))

pub returns-in_err-put_edit-clause-moves : goal.returns-in_err-put_edit-clause-moves
returns-in_err-put_edit-clause-moves g c =
    let p = err_from_is_err_and c.from_residual-in_err-put_edit.result c.from_residual-in_err-put_edit.ensures.1 in
    rw (p.1, p.2) (moved (store_state g.S.Store c.args.store.now) (store_state g.S.Store c.put_edit.new.store) (EditsOne c.in_ok-edit.edit (Err c.in_err-put_edit.field-0.0) c.args.edits.now.draft c.put_edit.new.edits.draft) _ c.in_err-put_edit.ensures.moves (λ docs after h. remove_refused c.args.name.now c.args.id.now c.in_ok-edit.edit c.in_ok-edit.ensures c.args.edits.now.draft c.put_edit.new.edits.draft docs after c.in_err-put_edit.field-0.0 h))

pub returns-clause-moves : goal.returns-clause-moves
returns-clause-moves g c =
    moved (store_state g.S.Store c.args.store.now) (store_state g.S.Store c.put_edit.new.store) (EditsOne c.in_ok-edit.edit (Ok tt) c.args.edits.now.draft c.put_edit.new.edits.draft) _ c.in_ok-put_edit.ensures.moves (λ docs after h. remove_done c.args.name.now c.args.id.now c.in_ok-edit.edit c.in_ok-edit.ensures c.args.edits.now.draft c.put_edit.new.edits.draft docs after h)

use Rattle.std.proofs.lemmas.Result.{err_from_is_err_and}
use Rattle.bson_store.specs.Calls.{store_state}
use Rattle.bson_store.proofs.MoveLemmas.{rests, moved}
use Rattle.fallowtime_commands.proofs.RequestLemmas.{insert_unmade, put_in}
use Rattle.fallowtime_commands.proofs.session.drafting.put_in.Goals as goal

pub returns-in_err-edit-clause-moves : goal.returns-in_err-edit-clause-moves
returns-in_err-edit-clause-moves g c =
    let p = err_from_is_err_and c.from_residual.result c.from_residual.ensures.1 in
    rw (p.1, p.2) (rests (store_state g.S.Store c.args.store.now) _ (λ docs. insert_unmade c.args.name.now c.args.document.now c.args.edits.now.draft docs c.in_err-edit.field-0.0 c.in_err-edit.ensures))

pub returns-clause-moves : goal.returns-clause-moves
returns-clause-moves g c =
    moved (store_state g.S.Store c.args.store.now) (store_state g.S.Store c.put_edit.new.store) _ _ c.put_edit.ensures.moves
    (λ docs after h. put_in c.args.name.now c.args.document.now c.in_ok-edit.edit c.in_ok-edit.ensures.0 c.args.edits.now.draft c.put_edit.new.edits.draft docs after c.put_edit.result c.in_ok-edit.ensures.1 h)

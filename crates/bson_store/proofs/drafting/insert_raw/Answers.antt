use Rattle.std.proofs.lemmas.Result.{err_from_is_err_and}
use Rattle.bson_store.specs.Calls.{store_state}
use Rattle.store_documents.specs.Names.{name_bytes}
use Rattle.store_model.specs.State.{insert}
use Rattle.bson_store.proofs.MoveLemmas.{rests, moved}
use Rattle.bson_store.proofs.ReadLemmas.{inserts}
use Rattle.bson_store.proofs.ServeLemmas.{insert_unwritten}
use Rattle.bson_store.proofs.EditLemmas.{bytes_bad, bytes_unkept, bytes_edited}
use Rattle.bson_store.proofs.drafting.insert_raw.Goals as goal

pub returns-in_err-name-clause-moves : goal.returns-in_err-name-clause-moves
returns-in_err-name-clause-moves g c =
    let p = err_from_is_err_and c.from_residual.result c.from_residual.ensures.1 in
    rw (p.1, p.2, c.in_err-name.ensures.0) (rests (store_state g.S.Store c.args.store.now) _ (λ docs. bytes_bad c.args.name.now c.args.bytes.now c.args.draft.now c.args.draft.now docs insert c.in_err-name.ensures.1))

pub returns-in_err-row-clause-moves : goal.returns-in_err-row-clause-moves
returns-in_err-row-clause-moves g c =
    let p = err_from_is_err_and c.from_residual-in_err-row.result c.from_residual-in_err-row.ensures.1 in
    rw (p.1, p.2) (rests (store_state g.S.Store c.args.store.now) _ (λ docs. bytes_unkept c.args.name.now c.args.bytes.now c.args.draft.now c.args.draft.now docs insert c.in_err-row.field-0.0 inserts
    (λ v d h. insert_unwritten v c.args.name.now d c.in_err-row.field-0.0 c.in_ok-name.ensures.1 h) c.in_ok-name.ensures.1 c.in_err-row.ensures))

pub returns-clause-moves : goal.returns-clause-moves
returns-clause-moves g c =
    let kept = c.in_ok-row.ensures in
    moved (store_state g.S.Store c.args.store.now) (store_state g.S.Store c.insert_row.new.store) _ _ (c.insert_row.ensures.moves kept.0 kept.2 kept.3)
    (λ docs after h. bytes_edited c.args.name.now (name_bytes c.in_ok-name.name) c.args.bytes.now insert kept.0 c.insert_row.result c.args.draft.now c.insert_row.new.draft docs after c.in_ok-name.ensures.0 kept.1 h)

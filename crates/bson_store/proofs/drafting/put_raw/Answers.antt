use Rattle.std.proofs.Common.{subst}
use Rattle.std.proofs.lemmas.Result.{err_from_is_err_and}
use Rattle.bson_store.specs.Calls.{store_state}
use Rattle.store_model.specs.Reading.{readable}
use Rattle.bson_store.proofs.MoveLemmas.{rests, moved}
use Rattle.bson_store.specs.Drafting.{EditsPut}
use Rattle.bson_store.proofs.EditLemmas.{put_bad, put_unkept}
use Rattle.bson_store.proofs.drafting.put_raw.Goals as goal

pub returns-in_err-name-clause-moves : goal.returns-in_err-name-clause-moves
returns-in_err-name-clause-moves g c =
    let p = err_from_is_err_and c.from_residual.result c.from_residual.ensures.1 in
    rw (p.1, p.2, c.in_err-name.ensures.0) (rests (store_state g.S.Store c.args.store.now) _ (λ docs. put_bad c.args.name.now c.args.bytes.now c.args.draft.now c.args.draft.now docs c.in_err-name.ensures.1))

pub returns-in_err-row-clause-moves : goal.returns-in_err-row-clause-moves
returns-in_err-row-clause-moves g c =
    let p = err_from_is_err_and c.from_residual-in_err-row.result c.from_residual-in_err-row.ensures.1 in
    rw (p.1, p.2) (rests (store_state g.S.Store c.args.store.now) _ (λ docs. put_unkept c.args.name.now c.args.bytes.now c.args.draft.now c.args.draft.now docs c.in_err-row.field-0.0 c.in_ok-name.ensures.1 c.in_err-row.ensures))

pub returns-clause-moves : goal.returns-clause-moves
returns-clause-moves g c =
    let kept = c.in_ok-row.ensures in
    moved (store_state g.S.Store c.args.store.now) (store_state g.S.Store c.put_row.new.store) _ _ (c.put_row.ensures.moves kept.0 kept.2 kept.3)
    (λ docs after h. (readable kept.0, kept.1, subst (λ n. EditsPut n (readable kept.0) c.put_row.result c.args.draft.now c.put_row.new.draft docs after) c.in_ok-name.ensures.0 h))

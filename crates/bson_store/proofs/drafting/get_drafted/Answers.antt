use Rattle.std.proofs.Common.{Ok, Err, subst}
use Rattle.std.proofs.lemmas.Result.{err_from_is_err_and}
use Rattle.bson_model.specs.View.{view}
use Rattle.store_documents.specs.Names.{name_bytes}
use Rattle.bson_store.specs.Calls.{store_state}
use Rattle.bson_store.specs.Drafting.{LooksDrafted}
use Rattle.bson_store.proofs.MoveLemmas.{rests, moved}
use Rattle.bson_store.proofs.EditLemmas.{get_bad_name, get_found, get_none, get_unlooked}
use Rattle.bson_store.proofs.drafting.get_drafted.Goals as goal

pub returns-in_err-name-clause-moves : goal.returns-in_err-name-clause-moves
returns-in_err-name-clause-moves g c =
    let p = err_from_is_err_and c.from_residual.result c.from_residual.ensures.1 in
    rw (p.1, p.2, c.in_err-name.ensures.0) (rests (store_state g.S.Store c.args.store.now) _ (λ docs. get_bad_name c.args.name.now (view c.args.id.now) c.args.edits.now.draft docs c.in_err-name.ensures.1))

pub returns-in_err-found-clause-moves : goal.returns-in_err-found-clause-moves
returns-in_err-found-clause-moves g c =
    let p = err_from_is_err_and c.from_residual-in_err-found.result c.from_residual-in_err-found.ensures.1 in
    rw (p.1, p.2) (moved (store_state g.S.Store c.args.store.now) (store_state g.S.Store c.row_of.new.store) (LooksDrafted (name_bytes c.in_ok-name.name) (view c.args.id.now) c.args.edits.now.draft (Err c.in_err-found.field-0.0)) _ c.in_err-found.ensures.moves
    (λ docs after h. get_unlooked c.args.name.now (view c.args.id.now) c.args.edits.now.draft docs after c.in_ok-name.ensures.1 c.in_err-found.field-0.0 (subst (λ m. LooksDrafted m (view c.args.id.now) c.args.edits.now.draft (Err c.in_err-found.field-0.0) docs after) c.in_ok-name.ensures.0 h)))

pub returns-in_default-clause-moves : goal.returns-in_default-clause-moves
returns-in_default-clause-moves g c =
    rw c.from.ensures (moved (store_state g.S.Store c.args.store.now) (store_state g.S.Store c.row_of.new.store) (LooksDrafted (name_bytes c.in_ok-name.name) (view c.args.id.now) c.args.edits.now.draft (Ok c.in_ok-found.field-0)) _ c.in_ok-found.ensures.moves
    (λ docs after h. get_none c.args.name.now (view c.args.id.now) c.args.edits.now.draft docs after c.in_ok-name.ensures.1 (subst (λ o. LooksDrafted c.args.name.now (view c.args.id.now) c.args.edits.now.draft (Ok o) docs after) c.in_default.is (subst (λ m. LooksDrafted m (view c.args.id.now) c.args.edits.now.draft (Ok c.in_ok-found.field-0) docs after) c.in_ok-name.ensures.0 h))))

pub returns-clause-moves : goal.returns-clause-moves
returns-clause-moves g c =
    moved (store_state g.S.Store c.args.store.now) (store_state g.S.Store c.row_of.new.store) (LooksDrafted (name_bytes c.in_ok-name.name) (view c.args.id.now) c.args.edits.now.draft (Ok c.in_ok-found.field-0)) _ c.in_ok-found.ensures.moves
    (λ docs after h. get_found c.args.name.now (view c.args.id.now) c.args.edits.now.draft docs after c.in_ok-name.ensures.1 c.in-Some.found (subst (λ o. LooksDrafted c.args.name.now (view c.args.id.now) c.args.edits.now.draft (Ok o) docs after) c.in-Some.is (subst (λ m. LooksDrafted m (view c.args.id.now) c.args.edits.now.draft (Ok c.in_ok-found.field-0) docs after) c.in_ok-name.ensures.0 h)))

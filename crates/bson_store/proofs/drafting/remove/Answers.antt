use Rattle.std.proofs.Common.{Ok, Err, ap, subst}
use Rattle.std.proofs.lemmas.Result.{err_from_is_err_and}
use Rattle.bson_model.specs.View.{view}
use Rattle.store_documents.specs.Names.{name_bytes}
use Rattle.bson_store.specs.Calls.{store_state}
use Rattle.bson_store.proofs.MoveLemmas.{rests, moved}
use Rattle.bson_store.specs.Drafting.{FindsDrafted}
use Rattle.bson_store.proofs.EditLemmas.{remove_bad_name, remove_unplain, remove_long, remove_memory, remove_unfound, remove_none, remove_denied, remove_done}
use Rattle.bson_store.proofs.drafting.remove.Goals as goal

pub returns-in_err-name-clause-moves : goal.returns-in_err-name-clause-moves
returns-in_err-name-clause-moves g c =
    let p = err_from_is_err_and c.from_residual.result c.from_residual.ensures.1 in
    rw (p.1, p.2, c.in_err-name.ensures.0) (rests (store_state g.S.Store c.args.store.now) _ (λ docs. remove_bad_name c.args.name.now (view c.args.id.now) c.args.draft.now c.args.draft.now docs c.in_err-name.ensures.1))

pub returns-in-Err-NotPlain-clause-moves : goal.returns-in-Err-NotPlain-clause-moves
returns-in-Err-NotPlain-clause-moves g c =
    rw c.from.ensures (rests (store_state g.S.Store c.args.store.now) _ (λ docs. remove_unplain c.args.name.now (view c.args.id.now) c.args.draft.now c.args.draft.now docs c.in_ok-name.ensures.1 c.key_of_id.ensures.sound (c.in-Err-NotPlain.ensures.not_plain (ap Err c.in-Err-NotPlain.field-0-is))))

pub returns-in-Err-TooLong-clause-moves : goal.returns-in-Err-TooLong-clause-moves
returns-in-Err-TooLong-clause-moves g c =
    rw c.from-in-Err-TooLong.ensures (rests (store_state g.S.Store c.args.store.now) _ (λ docs. remove_long c.args.name.now (view c.args.id.now) c.args.draft.now c.args.draft.now docs c.in_ok-name.ensures.1 c.key_of_id.ensures.sound (c.in-Err-TooLong.ensures.too_long (ap Err c.in-Err-TooLong.field-0-is))))

pub returns-in-Err-Memory-clause-moves : goal.returns-in-Err-Memory-clause-moves
returns-in-Err-Memory-clause-moves g c =
    rw c.from-in-Err-Memory.ensures (rests (store_state g.S.Store c.args.store.now) _ (λ docs. remove_memory c.args.name.now (view c.args.id.now) c.args.draft.now c.args.draft.now docs c.in_ok-name.ensures.1))

pub returns-in-Err-clause-moves : goal.returns-in-Err-clause-moves
returns-in-Err-clause-moves g c =
    let k = c.in-Ok.key.items in
    rw c.fault_refusal.ensures (moved (store_state g.S.Store c.args.store.now) (store_state g.S.Store c.find_row.new.store) (FindsDrafted (name_bytes c.in_ok-name.name) k c.args.draft.now (Err c.in-Err.fault)) _ (rw (c.as_str-collection.ensures.text, c.as_slice.ensures.value) at c.in-Err.ensures.moves)
    (λ docs after h. remove_unfound c.args.name.now (view c.args.id.now) c.args.draft.now c.args.draft.now docs c.in_ok-name.ensures.1 k after c.in-Ok.ensures.ok c.in-Err.fault (subst (λ m. FindsDrafted m k c.args.draft.now (Err c.in-Err.fault) docs after) c.in_ok-name.ensures.0 h)))

pub returns-in_default-clause-moves : goal.returns-in_default-clause-moves
returns-in_default-clause-moves g c =
    let k = c.in-Ok.key.items in
    rw c.from-in_default.ensures (moved (store_state g.S.Store c.args.store.now) (store_state g.S.Store c.find_row.new.store) (FindsDrafted (name_bytes c.in_ok-name.name) k c.args.draft.now (Ok c.in-Ok-find_row.found)) _ (rw (c.as_str-collection.ensures.text, c.as_slice.ensures.value) at c.in-Ok-find_row.ensures.moves)
    (λ docs after h. remove_none c.args.name.now (view c.args.id.now) c.args.draft.now c.args.draft.now docs c.in_ok-name.ensures.1 k after c.in-Ok.ensures.ok (subst (λ o. FindsDrafted c.args.name.now k c.args.draft.now (Ok o) docs after) c.in_default.is (subst (λ m. FindsDrafted m k c.args.draft.now (Ok c.in-Ok-find_row.found) docs after) c.in_ok-name.ensures.0 h))))

pub returns-clause-moves : goal.returns-clause-moves
returns-clause-moves g c =
    let k = c.in-Ok.key.items in
    rw c.fault_refusal-in-Err-remove.ensures (moved (store_state g.S.Store c.args.store.now) (store_state g.S.Store c.find_row.new.store) (FindsDrafted (name_bytes c.in_ok-name.name) k c.args.draft.now (Ok c.in-Ok-find_row.found)) _ (rw (c.as_str-collection.ensures.text, c.as_slice.ensures.value) at c.in-Ok-find_row.ensures.moves)
    (λ docs after h. remove_denied c.args.name.now (view c.args.id.now) c.args.draft.now c.remove.new.self docs c.in_ok-name.ensures.1 k after c.in-Ok.ensures.ok c.in-Some.found (subst (λ o. FindsDrafted c.args.name.now k c.args.draft.now (Ok o) docs after) c.in-Some.is (subst (λ m. FindsDrafted m k c.args.draft.now (Ok c.in-Ok-find_row.found) docs after) c.in_ok-name.ensures.0 h))))

pub returns-in-Ok-remove-clause-moves : goal.returns-in-Ok-remove-clause-moves
returns-in-Ok-remove-clause-moves g c =
    let k = c.in-Ok.key.items in
    moved (store_state g.S.Store c.args.store.now) (store_state g.S.Store c.find_row.new.store) (FindsDrafted (name_bytes c.in_ok-name.name) k c.args.draft.now (Ok c.in-Ok-find_row.found)) _ (rw (c.as_str-collection.ensures.text, c.as_slice.ensures.value) at c.in-Ok-find_row.ensures.moves)
    (λ docs after h. remove_done c.args.name.now (view c.args.id.now) c.args.draft.now c.remove.new.self docs c.in_ok-name.ensures.1 k after c.in-Ok.ensures.ok c.in-Some.found (subst (λ o. FindsDrafted c.args.name.now k c.args.draft.now (Ok o) docs after) c.in-Some.is (subst (λ m. FindsDrafted m k c.args.draft.now (Ok c.in-Ok-find_row.found) docs after) c.in_ok-name.ensures.0 h))
    c.in-Ok-remove.ensures.more (rw (c.as_str-collection.ensures.text, c.in_ok-name.ensures.0, c.as_slice-2.ensures.value) at c.in-Ok-remove.ensures.over))

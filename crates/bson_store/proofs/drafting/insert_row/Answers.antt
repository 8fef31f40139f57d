use Rattle.std.specs.Cow.{cow_slice_items}
use Rattle.std.proofs.Common.{Ok, Err, subst}
use Rattle.store_documents.specs.Names.{name_bytes}
use Rattle.bson_store.specs.Calls.{store_state}
use Rattle.bson_store.proofs.MoveLemmas.{moved}
use Rattle.bson_store.proofs.ServeLemmas.{written_fits}
use Rattle.bson_store.specs.Drafting.{FindsDrafted}
use Rattle.bson_store.proofs.EditLemmas.{insert_unfound, insert_duplicate, insert_full, insert_added}
use Rattle.bson_store.proofs.drafting.insert_row.Goals as goal

pub returns-in-Err-clause-moves : goal.returns-in-Err-clause-moves
returns-in-Err-clause-moves g c d read told =
    let n = name_bytes c.args.name in
    let k = c.args.row.now.key.items in
    rw c.fault_refusal.ensures (moved (store_state g.S.Store c.args.store.now) (store_state g.S.Store c.find_row.new.store) (FindsDrafted n k c.args.draft.now (Err c.in-Err.fault)) _ (rw (c.as_str-collection.ensures.text, c.as_slice-key.ensures.value) at c.in-Err.ensures.moves)
    (λ docs after h. insert_unfound n k (cow_slice_items c.args.row.now.body) d c.in-Err.fault c.args.draft.now c.args.draft.now docs after (rw c.as_str-collection.ensures.text at c.as_str-collection.ensures.named) h))

pub returns-in-Some-clause-moves : goal.returns-in-Some-clause-moves
returns-in-Some-clause-moves g c d read told =
    let n = name_bytes c.args.name in
    let k = c.args.row.now.key.items in
    rw c.from.ensures (moved (store_state g.S.Store c.args.store.now) (store_state g.S.Store c.find_row.new.store) (FindsDrafted n k c.args.draft.now (Ok c.in-Ok.found)) _ (rw (c.as_str-collection.ensures.text, c.as_slice-key.ensures.value) at c.in-Ok.ensures.moves)
    (λ docs after h. insert_duplicate n k (cow_slice_items c.args.row.now.body) d c.in-Some.field-0 c.args.draft.now c.args.draft.now docs after (rw c.as_str-collection.ensures.text at c.as_str-collection.ensures.named) (written_fits d c.args.row.now read told)
    (subst (λ o. FindsDrafted n k c.args.draft.now (Ok o) docs after) c.in-Some.is h)))

pub returns-in-Err-add-clause-moves : goal.returns-in-Err-add-clause-moves
returns-in-Err-add-clause-moves g c d read told =
    let n = name_bytes c.args.name in
    let k = c.args.row.now.key.items in
    rw c.fault_refusal-in-Err-add.ensures (moved (store_state g.S.Store c.args.store.now) (store_state g.S.Store c.find_row.new.store) (FindsDrafted n k c.args.draft.now (Ok c.in-Ok.found)) _ (rw (c.as_str-collection.ensures.text, c.as_slice-key.ensures.value) at c.in-Ok.ensures.moves)
    (λ docs after h. insert_full n k d c.in-Ok.found c.in-Err-add.fault c.args.draft.now c.add.new.self docs after (rw c.as_str-collection.ensures.text at c.as_str-collection.ensures.named) h))

pub returns-in-Ok-add-clause-moves : goal.returns-in-Ok-add-clause-moves
returns-in-Ok-add-clause-moves g c d read told =
    let n = name_bytes c.args.name in
    let k = c.args.row.now.key.items in
    moved (store_state g.S.Store c.args.store.now) (store_state g.S.Store c.find_row.new.store) (FindsDrafted n k c.args.draft.now (Ok c.in-Ok.found)) _ (rw (c.as_str-collection.ensures.text, c.as_slice-key.ensures.value) at c.in-Ok.ensures.moves)
    (λ docs after h. insert_added n k (cow_slice_items c.args.row.now.body) d c.args.draft.now c.add.new.self docs after (rw c.as_str-collection.ensures.text at c.as_str-collection.ensures.named) (rw c.as_str-collection.ensures.text at c.as_str-collection.utf8) (written_fits d c.args.row.now read told)
    (subst (λ o. FindsDrafted n k c.args.draft.now (Ok o) docs after) c.in_default.is h) (rw (c.as_str-collection.ensures.text, c.as_slice-key.ensures.value, c.as_slice-body.ensures.value) at c.in-Ok-add.ensures.more) (rw (c.as_str-collection.ensures.text, c.as_slice-key.ensures.value) at c.in-Ok-add.ensures.over) c.in-Ok-add.ensures.room)

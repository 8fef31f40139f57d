use Rattle.std.specs.Cow.{cow_slice_items}
use Rattle.std.proofs.Common.{Ok, Err, subst}
use Rattle.store_documents.specs.Names.{name_bytes}
use Rattle.bson_store.specs.Calls.{store_state}
use Rattle.bson_store.proofs.MoveLemmas.{moved}
use Rattle.bson_store.proofs.ServeLemmas.{written_fits}
use Rattle.bson_store.specs.Drafting.{FindsDrafted}
use Rattle.bson_store.proofs.EditLemmas.{replace_unfound, replace_none, replace_memory, replace_done}
use Rattle.bson_store.proofs.drafting.replace_row.Goals as goal

pub returns-in-Err-clause-moves : goal.returns-in-Err-clause-moves
returns-in-Err-clause-moves g c d read told =
    let n = name_bytes c.args.name in
    let k = c.args.row.now.key.items in
    rw c.fault_refusal.ensures (moved (store_state g.S.Store c.args.store.now) (store_state g.S.Store c.find_row.new.store) (FindsDrafted n k c.args.draft.now (Err c.in-Err.fault)) _ (rw (c.as_str-collection.ensures.text, c.as_slice-key.ensures.value) at c.in-Err.ensures.moves)
    (λ docs after h. replace_unfound n k (cow_slice_items c.args.row.now.body) d c.in-Err.fault c.args.draft.now c.args.draft.now docs after (rw c.as_str-collection.ensures.text at c.as_str-collection.ensures.named) (written_fits d c.args.row.now read told) h))

pub returns-in_default-clause-moves : goal.returns-in_default-clause-moves
returns-in_default-clause-moves g c d read told =
    let n = name_bytes c.args.name in
    let k = c.args.row.now.key.items in
    rw c.from.ensures (moved (store_state g.S.Store c.args.store.now) (store_state g.S.Store c.find_row.new.store) (FindsDrafted n k c.args.draft.now (Ok c.in-Ok.found)) _ (rw (c.as_str-collection.ensures.text, c.as_slice-key.ensures.value) at c.in-Ok.ensures.moves)
    (λ docs after h. replace_none n k (cow_slice_items c.args.row.now.body) d c.args.draft.now c.args.draft.now docs after (rw c.as_str-collection.ensures.text at c.as_str-collection.ensures.named) (written_fits d c.args.row.now read told)
    (subst (λ o. FindsDrafted n k c.args.draft.now (Ok o) docs after) c.in_default.is h)))

pub returns-in-Err-rewrite-clause-moves : goal.returns-in-Err-rewrite-clause-moves
returns-in-Err-rewrite-clause-moves g c d read told =
    let n = name_bytes c.args.name in
    let k = c.args.row.now.key.items in
    rw c.fault_refusal-in-Err-rewrite.ensures (moved (store_state g.S.Store c.args.store.now) (store_state g.S.Store c.find_row.new.store) (FindsDrafted n k c.args.draft.now (Ok c.in-Ok.found)) _ (rw (c.as_str-collection.ensures.text, c.as_slice-key.ensures.value) at c.in-Ok.ensures.moves)
    (λ docs after h. replace_memory n k (cow_slice_items c.args.row.now.body) d c.in-Some.found c.args.draft.now c.rewrite.new.self docs after (rw c.as_str-collection.ensures.text at c.as_str-collection.ensures.named) (written_fits d c.args.row.now read told)
    (subst (λ o. FindsDrafted n k c.args.draft.now (Ok o) docs after) c.in-Some.is h)))

pub returns-in-Ok-rewrite-clause-moves : goal.returns-in-Ok-rewrite-clause-moves
returns-in-Ok-rewrite-clause-moves g c d read told =
    let n = name_bytes c.args.name in
    let k = c.args.row.now.key.items in
    moved (store_state g.S.Store c.args.store.now) (store_state g.S.Store c.find_row.new.store) (FindsDrafted n k c.args.draft.now (Ok c.in-Ok.found)) _ (rw (c.as_str-collection.ensures.text, c.as_slice-key.ensures.value) at c.in-Ok.ensures.moves)
    (λ docs after h. replace_done n k (cow_slice_items c.args.row.now.body) d c.in-Some.found c.args.draft.now c.rewrite.new.self docs after (rw c.as_str-collection.ensures.text at c.as_str-collection.ensures.named) (written_fits d c.args.row.now read told)
    (subst (λ o. FindsDrafted n k c.args.draft.now (Ok o) docs after) c.in-Some.is h) (rw c.as_slice-body.ensures.value at c.in-Ok-rewrite.ensures.more) (rw (c.as_str-collection.ensures.text, c.as_slice-key.ensures.value) at c.in-Ok-rewrite.ensures.over))

use Rattle.std.proofs.Common.{Ok, Err, ap}
use Rattle.bson_model.specs.View.{view}
use Rattle.store_documents.specs.Names.{name_bytes}
use Rattle.bson_store.specs.Calls.{store_state}
use Rattle.bson_store.proofs.MoveLemmas.{rests, moved}
use Rattle.bson_store.proofs.FindLemmas.{long_looks, unplain_looks}
use Rattle.bson_store.specs.Drafting.{FindsDrafted}
use Rattle.bson_store.proofs.EditLemmas.{found_drafted, memory_looks, none_looks, unfound_drafted}
use Rattle.bson_store.proofs.drafting.row_of.Goals as goal

pub returns-in-Err-NotPlain-clause-moves : goal.returns-in-Err-NotPlain-clause-moves
returns-in-Err-NotPlain-clause-moves g c =
    rests (store_state g.S.Store c.args.store.now) _ (λ docs. none_looks (name_bytes c.args.name) (view c.args.id.now) c.args.draft.now docs (λ v. unplain_looks v (name_bytes c.args.name) (view c.args.id.now) c.key_of_id.ensures.sound (c.in-Err-NotPlain.ensures.not_plain (ap Err c.in-Err-NotPlain.field-0-is))))

pub returns-in-Err-TooLong-clause-moves : goal.returns-in-Err-TooLong-clause-moves
returns-in-Err-TooLong-clause-moves g c =
    rests (store_state g.S.Store c.args.store.now) _ (λ docs. none_looks (name_bytes c.args.name) (view c.args.id.now) c.args.draft.now docs (λ v. long_looks v (name_bytes c.args.name) (view c.args.id.now) c.key_of_id.ensures.sound (c.in-Err-TooLong.ensures.too_long (ap Err c.in-Err-TooLong.field-0-is))))

pub returns-in-Err-Memory-clause-moves : goal.returns-in-Err-Memory-clause-moves
returns-in-Err-Memory-clause-moves g c = rw c.from.ensures (rests (store_state g.S.Store c.args.store.now) _ (λ docs. memory_looks (name_bytes c.args.name) (view c.args.id.now) c.args.draft.now docs))

pub returns-clause-moves : goal.returns-clause-moves
returns-clause-moves g c =
    let n = name_bytes c.args.name in
    let k = c.in-Ok.key.items in
    rw c.fault_refusal.ensures (moved (store_state g.S.Store c.args.store.now) (store_state g.S.Store c.find_row.new.store) (FindsDrafted n k c.args.draft.now (Err c.in-Err.fault)) _ (rw (c.as_str-collection.ensures.text, c.as_slice.ensures.value) at c.in-Err.ensures.moves)
    (λ docs after h. unfound_drafted n (view c.args.id.now) c.args.draft.now docs k c.in-Err.fault after h))

pub returns-in-Ok-find_row-clause-moves : goal.returns-in-Ok-find_row-clause-moves
returns-in-Ok-find_row-clause-moves g c =
    let n = name_bytes c.args.name in
    let k = c.in-Ok.key.items in
    moved (store_state g.S.Store c.args.store.now) (store_state g.S.Store c.find_row.new.store) (FindsDrafted n k c.args.draft.now (Ok c.in-Ok-find_row.found)) _ (rw (c.as_str-collection.ensures.text, c.as_slice.ensures.value) at c.in-Ok-find_row.ensures.moves)
    (λ docs after h. found_drafted n (view c.args.id.now) c.args.draft.now docs k c.in-Ok-find_row.found after c.in-Ok.ensures.ok h)

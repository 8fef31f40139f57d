use Rattle.std.proofs.Common.{string_bytes}
use Rattle.bson_model.specs.View.{view}
use Rattle.store_model.specs.State.{insert, replace, remove, in_bytes, on}
use Rattle.bson_store.specs.Calls.{store_state}
use Rattle.bson_store.proofs.MoveLemmas.{moved}
use Rattle.bson_store.specs.Drafting.{EditsBy, EditsBytes, EditsKept, EditsPut}
use Rattle.bson_store.proofs.WholeLemmas.{one_inserted, one_kept, one_put, one_removed, one_replaced}
use Rattle.bson_store.proofs.whole.draft_edit.Goals as goal

pub returns-in-InsertRaw-clause-moves : goal.returns-in-InsertRaw-clause-moves
returns-in-InsertRaw-clause-moves g c =
    rw c.in-InsertRaw.is (moved (store_state g.S.Store c.args.store.now) (store_state g.S.Store c.insert_raw.new.store) (EditsBytes (λ x. EditsBy (on (string_bytes c.in-InsertRaw.name) (insert in_bytes x))) c.in-InsertRaw.bytes.items c.insert_raw.result c.args.drafted.now.draft c.insert_raw.new.draft) _
    (rw (c.as_str.ensures.value, c.as_slice.ensures.value) at c.insert_raw.ensures.moves)
    (λ docs after h. one_inserted c.in-InsertRaw.name c.in-InsertRaw.bytes c.insert_raw.result c.args.drafted.now.draft c.insert_raw.new.draft docs after h))

pub returns-in-ReplaceRaw-clause-moves : goal.returns-in-ReplaceRaw-clause-moves
returns-in-ReplaceRaw-clause-moves g c =
    rw c.in-ReplaceRaw.is (moved (store_state g.S.Store c.args.store.now) (store_state g.S.Store c.replace_raw.new.store) (EditsBytes (λ x. EditsBy (on (string_bytes c.in-ReplaceRaw.name) (replace in_bytes x))) c.in-ReplaceRaw.bytes.items c.replace_raw.result c.args.drafted.now.draft c.replace_raw.new.draft) _
    (rw (c.as_str-in-ReplaceRaw.ensures.value, c.as_slice-in-ReplaceRaw.ensures.value) at c.replace_raw.ensures.moves)
    (λ docs after h. one_replaced c.in-ReplaceRaw.name c.in-ReplaceRaw.bytes c.replace_raw.result c.args.drafted.now.draft c.replace_raw.new.draft docs after h))

pub returns-in-PutRaw-clause-moves : goal.returns-in-PutRaw-clause-moves
returns-in-PutRaw-clause-moves g c =
    rw c.in-PutRaw.is (moved (store_state g.S.Store c.args.store.now) (store_state g.S.Store c.put_raw.new.store) (EditsBytes (EditsPut (string_bytes c.in-PutRaw.name)) c.in-PutRaw.bytes.items c.put_raw.result c.args.drafted.now.draft c.put_raw.new.draft) _
    (rw (c.as_str-in-PutRaw.ensures.value, c.as_slice-in-PutRaw.ensures.value) at c.put_raw.ensures.moves)
    (λ docs after h. one_put c.in-PutRaw.name c.in-PutRaw.bytes c.put_raw.result c.args.drafted.now.draft c.put_raw.new.draft docs after h))

pub returns-in-KeepRaw-clause-moves : goal.returns-in-KeepRaw-clause-moves
returns-in-KeepRaw-clause-moves g c =
    rw c.in-KeepRaw.is (moved (store_state g.S.Store c.args.store.now) (store_state g.S.Store c.keep_raw.new.store) (EditsBytes (EditsKept (string_bytes c.in-KeepRaw.name)) c.in-KeepRaw.bytes.items c.keep_raw.result c.args.drafted.now.draft c.keep_raw.new.draft) _
    (rw (c.as_str-in-KeepRaw.ensures.value, c.as_slice-in-KeepRaw.ensures.value) at c.keep_raw.ensures.moves)
    (λ docs after h. one_kept c.in-KeepRaw.name c.in-KeepRaw.bytes c.keep_raw.result c.args.drafted.now.draft c.keep_raw.new.draft docs after h))

pub returns-in-Remove-clause-moves : goal.returns-in-Remove-clause-moves
returns-in-Remove-clause-moves g c =
    rw c.in-Remove.is (moved (store_state g.S.Store c.args.store.now) (store_state g.S.Store c.remove.new.store) (EditsBy (on (string_bytes c.in-Remove.name) (remove (view c.in-Remove.id))) c.remove.result c.args.drafted.now.draft c.remove.new.draft) _
    (rw c.as_str-in-Remove.ensures.value at c.remove.ensures.moves)
    (λ docs after h. one_removed c.in-Remove.name c.in-Remove.id c.remove.result c.args.drafted.now.draft c.remove.new.draft docs after h))

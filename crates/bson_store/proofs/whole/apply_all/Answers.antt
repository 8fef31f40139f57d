use Rattle.std.proofs.Common.{Ok, Err, ◌∙◌, arith}
use Rattle.sqlite.specs.State.{HasCleanDisk}
use Rattle.sqlite.proofs.StateLemmas.{survives_then}
use Rattle.bson_store.specs.Calls.{store_state}
use Rattle.bson_store.proofs.MoveLemmas.{moved, moved_twice}
use Rattle.bson_store.specs.Drafting.{BeginsDraft, MakesDrafted}
use Rattle.bson_store.specs.Whole.{DraftsAll, EditsAll}
use Rattle.bson_store.proofs.IndexWholeLemmas.{kept_stay, kept_then}
use Rattle.bson_store.proofs.WholeLemmas.{all_done, all_drafted, done_leaves, none_begun, none_done, one_refused, read_leaves, refused_leaves}
use Rattle.bson_store.proofs.whole.apply_all.Goals as goal

pub returns-in-Err-clause-lists : goal.returns-in-Err-clause-lists
returns-in-Err-clause-lists g c =
    rw c.of_all.ensures (moved (store_state g.S.Store c.args.store.now) (store_state g.S.Store c.begin_draft.new.store) (BeginsDraft (Err c.in-Err.error)) _ c.in-Err.ensures.moves (λ docs after h. none_begun c.args.edits.now c.in-Err.error docs after h))

pub returns-in-Err-draft_edits-clause-lists : goal.returns-in-Err-draft_edits-clause-lists
returns-in-Err-draft_edits-clause-lists g c =
    let x = c.in-Ok.drafted in
    let draft = c.draft_edits.new.drafted.draft in
    let r = c.in-Err-draft_edits.refusal in
    moved_twice (store_state g.S.Store c.args.store.now) (store_state g.S.Store c.begin_draft.new.store) (store_state g.S.Store c.draft_edits.new.store) (BeginsDraft (Ok x)) (EditsAll c.args.edits.now (Err r) x.draft draft) _ c.in-Ok.ensures.moves c.in-Err-draft_edits.ensures.moves
    (λ docs mid after h k. one_refused c.args.edits.now r x draft docs mid after h k)

pub returns-in-Err-draft_edits-clause-crash : goal.returns-in-Err-draft_edits-clause-crash
returns-in-Err-draft_edits-clause-crash g c =
    let s = store_state g.S.Store c.args.store.now in
    let t = store_state g.S.Store c.draft_edits.new.store in
    read_leaves s t c.args.edits.now c.in-Err-draft_edits.refusal (survives_then s (store_state g.S.Store c.begin_draft.new.store) t _ _ (λ _. ⊥) (λ _ db none. none) (λ _ db none. none) c.begin_draft.ensures.crash c.draft_edits.ensures.crash)

pub returns-clause-lists : goal.returns-clause-lists
returns-clause-lists g c =
    let s = store_state g.S.Store c.args.store.now in
    let b = store_state g.S.Store c.begin_draft.new.store in
    let m = store_state g.S.Store c.draft_edits.new.store in
    let t = store_state g.S.Store c.make_drafted.new.store in
    let edits = c.args.edits.now in
    let x = c.in-Ok.drafted in
    let draft = c.draft_edits.new.drafted.draft in
    let moves = moved_twice s b m (BeginsDraft (Ok x)) (EditsAll edits (Ok tt) x.draft draft) (DraftsAll edits draft) c.in-Ok.ensures.moves c.in-Ok-draft_edits.ensures.moves (λ docs mid after h k. all_drafted edits x draft docs mid after h k) in
    let before = survives_then s b m _ _ (λ _. ⊥) (λ _ db none. none) (λ _ db none. none) c.begin_draft.ensures.crash c.draft_edits.ensures.crash in
    rw c.of_all-in-Err-make_drafted.ensures
    (moved_twice s m t (DraftsAll edits draft) (MakesDrafted draft (Err c.in-Err-make_drafted.error)) _ moves c.in-Err-make_drafted.ensures.moves
    (λ docs mid after h k. none_done edits draft c.in-Err-make_drafted.error docs mid after h k))

pub returns-in-Ok-make_drafted-clause-lists : goal.returns-in-Ok-make_drafted-clause-lists
returns-in-Ok-make_drafted-clause-lists g c =
    let s = store_state g.S.Store c.args.store.now in
    let b = store_state g.S.Store c.begin_draft.new.store in
    let m = store_state g.S.Store c.draft_edits.new.store in
    let t = store_state g.S.Store c.make_drafted.new.store in
    let edits = c.args.edits.now in
    let x = c.in-Ok.drafted in
    let draft = c.draft_edits.new.drafted.draft in
    let moves = moved_twice s b m (BeginsDraft (Ok x)) (EditsAll edits (Ok tt) x.draft draft) (DraftsAll edits draft) c.in-Ok.ensures.moves c.in-Ok-draft_edits.ensures.moves (λ docs mid after h k. all_drafted edits x draft docs mid after h k) in
    let before = survives_then s b m _ _ (λ _. ⊥) (λ _ db none. none) (λ _ db none. none) c.begin_draft.ensures.crash c.draft_edits.ensures.crash in
    moved_twice s m t (DraftsAll edits draft) (MakesDrafted draft (Ok tt)) _ moves c.in-Ok-make_drafted.ensures.moves
    (λ docs mid after h k. all_done edits draft docs mid after h k)

pub returns-in-Ok-make_drafted-clause-crash : goal.returns-in-Ok-make_drafted-clause-crash
returns-in-Ok-make_drafted-clause-crash g c =
    let s = store_state g.S.Store c.args.store.now in
    let b = store_state g.S.Store c.begin_draft.new.store in
    let m = store_state g.S.Store c.draft_edits.new.store in
    let t = store_state g.S.Store c.make_drafted.new.store in
    let edits = c.args.edits.now in
    let x = c.in-Ok.drafted in
    let draft = c.draft_edits.new.drafted.draft in
    let moves = moved_twice s b m (BeginsDraft (Ok x)) (EditsAll edits (Ok tt) x.draft draft) (DraftsAll edits draft) c.in-Ok.ensures.moves c.in-Ok-draft_edits.ensures.moves (λ docs mid after h k. all_drafted edits x draft docs mid after h k) in
    let before = survives_then s b m _ _ (λ _. ⊥) (λ _ db none. none) (λ _ db none. none) c.begin_draft.ensures.crash c.draft_edits.ensures.crash in
    done_leaves s m t edits draft moves before c.make_drafted.ensures.crash c.in-Ok-make_drafted.ensures.settled

pub returns-clause-crash : goal.returns-clause-crash
returns-clause-crash g c =
    let s = store_state g.S.Store c.args.store.now in
    let b = store_state g.S.Store c.begin_draft.new.store in
    let m = store_state g.S.Store c.draft_edits.new.store in
    let t = store_state g.S.Store c.make_drafted.new.store in
    let edits = c.args.edits.now in
    let x = c.in-Ok.drafted in
    let draft = c.draft_edits.new.drafted.draft in
    let moves = moved_twice s b m (BeginsDraft (Ok x)) (EditsAll edits (Ok tt) x.draft draft) (DraftsAll edits draft) c.in-Ok.ensures.moves c.in-Ok-draft_edits.ensures.moves (λ docs mid after h k. all_drafted edits x draft docs mid after h k) in
    let before = survives_then s b m _ _ (λ _. ⊥) (λ _ db none. none) (λ _ db none. none) c.begin_draft.ensures.crash c.draft_edits.ensures.crash in
    rw c.of_all-in-Err-make_drafted.ensures (refused_leaves s m t edits draft moves before c.make_drafted.ensures.crash c.in-Err-make_drafted.error)

pub returns-in-Ok-make_drafted-clause-open : goal.returns-in-Ok-make_drafted-clause-open
returns-in-Ok-make_drafted-clause-open g c clean docs stands =
    let s = store_state g.S.Store c.args.store.now in
    let b = store_state g.S.Store c.begin_draft.new.store in
    let m = store_state g.S.Store c.draft_edits.new.store in
    let t = store_state g.S.Store c.make_drafted.new.store in
    let edits = c.args.edits.now in
    let x = c.in-Ok.drafted in
    let draft = c.draft_edits.new.drafted.draft in
    let moves = moved_twice s b m (BeginsDraft (Ok x)) (EditsAll edits (Ok tt) x.draft draft) (DraftsAll edits draft) c.in-Ok.ensures.moves c.in-Ok-draft_edits.ensures.moves (λ docs mid after h k. all_drafted edits x draft docs mid after h k) in
    let before = survives_then s b m _ _ (λ _. ⊥) (λ _ db none. none) (λ _ db none. none) c.begin_draft.ensures.crash c.draft_edits.ensures.crash in
    let early : HasCleanDisk m = omega (arith, clean, c.make_drafted.ensures.crash.clean) in
    let y = (moves early).1 docs stands in
    let o = c.in-Ok-make_drafted.ensures.open clean y.0 y.1 in
    (y.3.was_open o.0, o.1)

pub returns-in-Err-draft_edits-clause-indexes : goal.returns-in-Err-draft_edits-clause-indexes
returns-in-Err-draft_edits-clause-indexes g c = kept_stay c.args.store.now.table.indexes c.draft_edits.new.store.table.indexes (c.draft_edits.ensures.indexes ∙ c.begin_draft.ensures.indexes)

pub returns-clause-indexes : goal.returns-clause-indexes
returns-clause-indexes g c = kept_then c.args.store.now.table.indexes c.draft_edits.new.store.table.indexes c.make_drafted.new.store.table.indexes (c.draft_edits.ensures.indexes ∙ c.begin_draft.ensures.indexes) c.make_drafted.ensures.indexes

pub returns-in-Ok-make_drafted-clause-indexes : goal.returns-in-Ok-make_drafted-clause-indexes
returns-in-Ok-make_drafted-clause-indexes g c = kept_then c.args.store.now.table.indexes c.draft_edits.new.store.table.indexes c.make_drafted.new.store.table.indexes (c.draft_edits.ensures.indexes ∙ c.begin_draft.ensures.indexes) c.make_drafted.ensures.indexes

use Rattle.std.proofs.Common.{Ok, Err, ◌∙◌, arith}
use Rattle.sqlite.proofs.StateLemmas.{survives_then}
use Rattle.sqlite.specs.State.{HasCleanDisk}
use Rattle.bson_store.proofs.MoveLemmas.{moved, moved_twice}
use Rattle.bson_store.specs.Calls.{store_state}
use Rattle.bson_store.specs.Drafting.{BeginsDraft, MakesDrafted}
use Rattle.bson_store.proofs.IndexWholeLemmas.{kept_stay, kept_then}
use Rattle.fallowtime_commands.proofs.ListedLemmas.{Ready, all_leave, all_made, each_refused, none_begun, none_leave, none_made, reads_leave, ready}
use Rattle.fallowtime_commands.specs.Listing.{PerformsEach}
use Rattle.fallowtime_commands.proofs.session.listing.perform_all.Goals as goal

pub returns-in-Err-clause-moves : goal.returns-in-Err-clause-moves
returns-in-Err-clause-moves g c =
    moved (store_state g.S.Store c.args.store.now) (store_state g.S.Store c.begin_draft.new.store) (BeginsDraft (Err c.in-Err.error)) _ c.in-Err.ensures.moves
    (λ docs after h. none_begun c.args.questions.now c.in-Err.error c.refused_at.result docs after c.refused_at.ensures h)

pub returns-in-Err-clause-crash : goal.returns-in-Err-clause-crash
returns-in-Err-clause-crash g c = reads_leave (store_state g.S.Store c.args.store.now) (store_state g.S.Store c.begin_draft.new.store) c.args.questions.now c.refused_at.result c.begin_draft.ensures.crash

pub returns-in-Err-perform_each-clause-moves : goal.returns-in-Err-perform_each-clause-moves
returns-in-Err-perform_each-clause-moves g c =
    let x = c.in-Ok.edits in
    let draft = c.perform_each.new.edits.draft in
    moved_twice (store_state g.S.Store c.args.store.now) (store_state g.S.Store c.begin_draft.new.store) (store_state g.S.Store c.perform_each.new.store) (BeginsDraft (Ok x)) (PerformsEach c.args.questions.now c.perform_each.new.answers.items (Err c.in-Err-perform_each.error) x.draft draft) _ c.in-Ok.ensures.moves c.in-Err-perform_each.ensures.moves
    (λ docs mid after h k. each_refused x c.args.questions.now c.perform_each.new.answers.items c.in-Err-perform_each.error draft docs mid after h k)

pub returns-in-Err-perform_each-clause-crash : goal.returns-in-Err-perform_each-clause-crash
returns-in-Err-perform_each-clause-crash g c =
    let s = store_state g.S.Store c.args.store.now in
    let t = store_state g.S.Store c.perform_each.new.store in
    reads_leave s t c.args.questions.now c.in-Err-perform_each.error (survives_then s (store_state g.S.Store c.begin_draft.new.store) t _ _ (λ _. ⊥) (λ _ db none. none) (λ _ db none. none) c.begin_draft.ensures.crash c.perform_each.ensures.crash)

pub returns-in-Ok-make_drafted-clause-moves : goal.returns-in-Ok-make_drafted-clause-moves
returns-in-Ok-make_drafted-clause-moves g c =
    let s = store_state g.S.Store c.args.store.now in
    let b = store_state g.S.Store c.begin_draft.new.store in
    let m = store_state g.S.Store c.perform_each.new.store in
    let t = store_state g.S.Store c.make_drafted.new.store in
    let qs = c.args.questions.now in
    let x = c.in-Ok.edits in
    let draft = c.perform_each.new.edits.draft in
    let xs = c.perform_each.new.answers.items in
    let both = moved_twice s b m (BeginsDraft (Ok x)) (PerformsEach qs xs (Ok tt) x.draft draft) (Ready qs xs draft) c.in-Ok.ensures.moves c.in-Ok-perform_each.ensures.moves (λ docs mid after h k. ready x qs xs draft docs mid after h k) in
    let before = survives_then s b m _ _ (λ _. ⊥) (λ _ db none. none) (λ _ db none. none) c.begin_draft.ensures.crash c.perform_each.ensures.crash in
    moved_twice s m t (Ready qs xs draft) (MakesDrafted draft (Ok tt)) _ both c.in-Ok-make_drafted.ensures.moves (λ docs mid after h k. all_made qs c.perform_each.new.answers draft docs mid after h k)

pub returns-in-Ok-make_drafted-clause-crash : goal.returns-in-Ok-make_drafted-clause-crash
returns-in-Ok-make_drafted-clause-crash g c =
    let s = store_state g.S.Store c.args.store.now in
    let b = store_state g.S.Store c.begin_draft.new.store in
    let m = store_state g.S.Store c.perform_each.new.store in
    let t = store_state g.S.Store c.make_drafted.new.store in
    let qs = c.args.questions.now in
    let x = c.in-Ok.edits in
    let draft = c.perform_each.new.edits.draft in
    let xs = c.perform_each.new.answers.items in
    let both = moved_twice s b m (BeginsDraft (Ok x)) (PerformsEach qs xs (Ok tt) x.draft draft) (Ready qs xs draft) c.in-Ok.ensures.moves c.in-Ok-perform_each.ensures.moves (λ docs mid after h k. ready x qs xs draft docs mid after h k) in
    let before = survives_then s b m _ _ (λ _. ⊥) (λ _ db none. none) (λ _ db none. none) c.begin_draft.ensures.crash c.perform_each.ensures.crash in
    all_leave s m t qs draft before c.make_drafted.ensures.crash c.perform_each.new.answers both c.in-Ok-make_drafted.ensures.settled

pub returns-in-Ok-make_drafted-clause-open : goal.returns-in-Ok-make_drafted-clause-open
returns-in-Ok-make_drafted-clause-open g c clean docs stands =
    let s = store_state g.S.Store c.args.store.now in
    let b = store_state g.S.Store c.begin_draft.new.store in
    let m = store_state g.S.Store c.perform_each.new.store in
    let t = store_state g.S.Store c.make_drafted.new.store in
    let qs = c.args.questions.now in
    let x = c.in-Ok.edits in
    let draft = c.perform_each.new.edits.draft in
    let xs = c.perform_each.new.answers.items in
    let both = moved_twice s b m (BeginsDraft (Ok x)) (PerformsEach qs xs (Ok tt) x.draft draft) (Ready qs xs draft) c.in-Ok.ensures.moves c.in-Ok-perform_each.ensures.moves (λ docs mid after h k. ready x qs xs draft docs mid after h k) in
    let before = survives_then s b m _ _ (λ _. ⊥) (λ _ db none. none) (λ _ db none. none) c.begin_draft.ensures.crash c.perform_each.ensures.crash in
    let early : HasCleanDisk m = omega (arith, clean, c.make_drafted.ensures.crash.clean) in
    let y = (both early).1 docs stands in
    let o = c.in-Ok-make_drafted.ensures.open clean y.0 y.1 in
    (y.3.was_open o.0, o.1)

pub returns-clause-moves : goal.returns-clause-moves
returns-clause-moves g c =
    let s = store_state g.S.Store c.args.store.now in
    let b = store_state g.S.Store c.begin_draft.new.store in
    let m = store_state g.S.Store c.perform_each.new.store in
    let t = store_state g.S.Store c.make_drafted.new.store in
    let qs = c.args.questions.now in
    let x = c.in-Ok.edits in
    let draft = c.perform_each.new.edits.draft in
    let xs = c.perform_each.new.answers.items in
    let both = moved_twice s b m (BeginsDraft (Ok x)) (PerformsEach qs xs (Ok tt) x.draft draft) (Ready qs xs draft) c.in-Ok.ensures.moves c.in-Ok-perform_each.ensures.moves (λ docs mid after h k. ready x qs xs draft docs mid after h k) in
    let before = survives_then s b m _ _ (λ _. ⊥) (λ _ db none. none) (λ _ db none. none) c.begin_draft.ensures.crash c.perform_each.ensures.crash in
    moved_twice s m t (Ready qs xs draft) (MakesDrafted draft (Err c.in-Err-make_drafted.error)) _ both c.in-Err-make_drafted.ensures.moves
    (λ docs mid after h k. none_made qs xs draft c.in-Err-make_drafted.error c.refused_at-in-Err-make_drafted.result docs mid after c.refused_at-in-Err-make_drafted.ensures h k)

pub returns-clause-crash : goal.returns-clause-crash
returns-clause-crash g c =
    let s = store_state g.S.Store c.args.store.now in
    let b = store_state g.S.Store c.begin_draft.new.store in
    let m = store_state g.S.Store c.perform_each.new.store in
    let t = store_state g.S.Store c.make_drafted.new.store in
    let qs = c.args.questions.now in
    let x = c.in-Ok.edits in
    let draft = c.perform_each.new.edits.draft in
    let xs = c.perform_each.new.answers.items in
    let both = moved_twice s b m (BeginsDraft (Ok x)) (PerformsEach qs xs (Ok tt) x.draft draft) (Ready qs xs draft) c.in-Ok.ensures.moves c.in-Ok-perform_each.ensures.moves (λ docs mid after h k. ready x qs xs draft docs mid after h k) in
    let before = survives_then s b m _ _ (λ _. ⊥) (λ _ db none. none) (λ _ db none. none) c.begin_draft.ensures.crash c.perform_each.ensures.crash in
    none_leave s m t qs draft before c.make_drafted.ensures.crash xs c.in-Err-make_drafted.error c.refused_at-in-Err-make_drafted.result c.refused_at-in-Err-make_drafted.ensures both c.in-Err-make_drafted.ensures.moves

pub returns-in-Err-clause-indexes : goal.returns-in-Err-clause-indexes
returns-in-Err-clause-indexes g c = kept_stay c.args.store.now.table.indexes c.begin_draft.new.store.table.indexes c.begin_draft.ensures.indexes

pub returns-in-Err-perform_each-clause-indexes : goal.returns-in-Err-perform_each-clause-indexes
returns-in-Err-perform_each-clause-indexes g c = kept_stay c.args.store.now.table.indexes c.perform_each.new.store.table.indexes (c.perform_each.ensures.indexes ∙ c.begin_draft.ensures.indexes)

pub returns-in-Ok-make_drafted-clause-indexes : goal.returns-in-Ok-make_drafted-clause-indexes
returns-in-Ok-make_drafted-clause-indexes g c = kept_then c.args.store.now.table.indexes c.perform_each.new.store.table.indexes c.make_drafted.new.store.table.indexes (c.perform_each.ensures.indexes ∙ c.begin_draft.ensures.indexes) c.make_drafted.ensures.indexes

pub returns-clause-indexes : goal.returns-clause-indexes
returns-clause-indexes g c = kept_then c.args.store.now.table.indexes c.perform_each.new.store.table.indexes c.make_drafted.new.store.table.indexes (c.perform_each.ensures.indexes ∙ c.begin_draft.ensures.indexes) c.make_drafted.ensures.indexes

use Rattle.std.proofs.Common.{◌≡◌, ◌++◌, ◌∷◌, [], ap, suc, List, take, take_all, drop, Ok, Err, sym, subst, refl, ◌∙◌, arith}
use Rattle.std.proofs.lemmas.List.{take_more}
use Rattle.sqlite.proofs.StateLemmas.{survives_then}
use Rattle.bson_store.specs.Calls.{store_state}
use Rattle.bson_store.proofs.CrashLemmas.{survives_itself}
use Rattle.bson_store.proofs.MoveLemmas.{moved, moved_twice, rests}
use Rattle.bson_store.specs.Whole.{EditsAll, EditsOne}
use Rattle.bson_store.specs.declared.edit.Edit.{Edit}
use Rattle.bson_store.proofs.WholeLemmas.{length_take, none_yet, one_more, split_at, stops}
use Rattle.bson_store.proofs.whole.draft_edits.Goals as goal

pub loop-at-init : goal.loop-at-init
loop-at-init g c =
    let s = store_state g.S.Store c.args.store.now in
    let draft = c.args.drafted.now.draft in
    record {
      moves = rests s (EditsAll (take 0 c.args.edits.now) (Ok tt) draft draft) (λ docs. none_yet draft c.args.edits.now docs);
      indexes = refl;
      survives = survives_itself s;
    }

pub loop-at-preserved : goal.loop-at-preserved
loop-at-preserved g c =
    let s = store_state g.S.Store c.args.store.now in
    let m = store_state g.S.Store c.loop-at.store in
    let t = store_state g.S.Store c.draft_edit.new.store in
    let edits = c.args.edits.now in
    let i = c.loop-at.at in
    let x = c.index-edits-at.result in
    let first = c.args.drafted.now.draft in
    let old = c.loop-at.drafted.draft in
    let new = c.draft_edit.new.drafted.draft in
    record {
      moves = moved_twice s m t (EditsAll (take i edits) (Ok tt) first old) (EditsOne x (Ok tt) old new) _ c.loop-at.invariant.moves c.in-Ok.ensures.moves
          (λ docs mid after h k. subst (λ (xs : List Edit). EditsAll xs (Ok tt) first new docs after) (sym (take_more edits i x c.loop-at-test.true ∙ ap (λ (y : Edit). take i edits ++ y ∷ []) (sym c.index-edits-at.is))) (one_more (take i edits) x first old new docs mid after h k));
      indexes = c.draft_edit.ensures.indexes ∙ c.loop-at.invariant.indexes;
      survives = survives_then s m t _ _ (λ _. ⊥) (λ _ db none. none) (λ _ db none. none) c.loop-at.invariant.survives c.draft_edit.ensures.crash;
    }

pub returns-in-Err-clause-moves : goal.returns-in-Err-clause-moves
returns-in-Err-clause-moves g c =
    let edits = c.args.edits.now in
    let i = c.loop-at.at in
    let x = c.index-edits-at.result in
    let first = c.args.drafted.now.draft in
    let old = c.loop-at.drafted.draft in
    let new = c.draft_edit.new.drafted.draft in
    let e = c.in-Err.error in
    moved_twice (store_state g.S.Store c.args.store.now) (store_state g.S.Store c.loop-at.store) (store_state g.S.Store c.draft_edit.new.store) (EditsAll (take i edits) (Ok tt) first old) (EditsOne x (Err e) old new) _ c.loop-at.invariant.moves c.in-Err.ensures.moves
    (λ docs mid after h k. stops edits (take i edits) x (drop (suc i) edits) i e first old new docs mid after (split_at edits i x c.loop-at-test.true c.index-edits-at.is) (length_take edits i c.loop-at-test.true) h k)

pub returns-in-Err-clause-crash : goal.returns-in-Err-clause-crash
returns-in-Err-clause-crash g c =
    survives_then (store_state g.S.Store c.args.store.now) (store_state g.S.Store c.loop-at.store) (store_state g.S.Store c.draft_edit.new.store) _ _ (λ _. ⊥) (λ _ db none. none) (λ _ db none. none) c.loop-at.invariant.survives c.draft_edit.ensures.crash

pub returns-clause-moves : goal.returns-clause-moves
returns-clause-moves g c =
    let edits = c.args.edits.now in
    let all : take c.loop-at.at edits ≡ edits = take_all c.loop-at.at edits (omega (arith, c.loop-at-test.false, c.loop-at.auto.at-end)) in
    moved (store_state g.S.Store c.args.store.now) (store_state g.S.Store c.loop-at.store) (EditsAll (take c.loop-at.at edits) (Ok tt) c.args.drafted.now.draft c.loop-at.drafted.draft) _ c.loop-at.invariant.moves
    (λ docs after h. subst (λ (xs : List Edit). EditsAll xs (Ok tt) c.args.drafted.now.draft c.loop-at.drafted.draft docs after) all h)

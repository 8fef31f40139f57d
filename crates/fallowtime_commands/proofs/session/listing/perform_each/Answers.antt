use Rattle.std.proofs.Common.{◌≡◌, ◌++◌, ◌∷◌, [], ap, suc, List, take, take_all, drop, Ok, Err, sym, subst, refl, ◌∙◌, arith}
use Rattle.std.proofs.lemmas.List.{take_more}
use Rattle.sqlite.proofs.StateLemmas.{survives_then}
use Rattle.bson_store.proofs.CrashLemmas.{survives_itself}
use Rattle.bson_store.proofs.MoveLemmas.{moved, moved_twice, rests}
use Rattle.bson_store.proofs.WholeLemmas.{length_take, split_at}
use Rattle.bson_store.specs.Calls.{store_state}
use Rattle.fallowtime_requests.specs.declared.reading.Question.{Question}
use Rattle.fallowtime_commands.proofs.ListedLemmas.{SoFar, each_done, none_answered, none_so_far, one_more, stops}
use Rattle.fallowtime_commands.specs.Listing.{AreAnswersTo, PerformsNext}
use Rattle.fallowtime_commands.proofs.session.listing.perform_each.Goals as goal

pub loop-at-init : goal.loop-at-init
loop-at-init g c =
    let s = store_state g.S.Store c.args.store.now in
    let first = c.args.edits.now.draft in
    let qs = c.args.questions.now in
    let xs = c.args.answers.now.items in
    record {
      moves = rests s (SoFar first (take 0 qs) xs first) (λ docs. none_so_far first qs xs docs c.requires);
      indexes = refl;
      survives = survives_itself s;
      shape = none_answered qs xs c.requires;
    }

pub loop-at-preserved : goal.loop-at-preserved
loop-at-preserved g c =
    let s = store_state g.S.Store c.args.store.now in
    let m = store_state g.S.Store c.loop-at.store in
    let t = store_state g.S.Store c.perform_next.new.store in
    let first = c.args.edits.now.draft in
    let qs = c.args.questions.now in
    let i = c.loop-at.at in
    let q = c.index-questions-at.result in
    let old = c.loop-at.edits.draft in
    let new = c.perform_next.new.edits.draft in
    let xs = c.loop-at.answers.items in
    let ys = c.perform_next.new.answers.items in
    let more = sym (take_more qs i q c.loop-at-test.true ∙ ap (λ (y : Question). take i qs ++ y ∷ []) (sym c.index-questions-at.is)) in
    record {
      moves = moved_twice s m t (SoFar first (take i qs) xs old) (PerformsNext q xs ys (Ok tt) old new) _ c.loop-at.invariant.moves c.in-Ok.ensures.moves
          (λ docs mid after h k. subst (λ (ps : List Question). SoFar first ps ys new docs after) more (one_more first (take i qs) xs ys q old new docs mid after h k));
      indexes = c.perform_next.ensures.indexes ∙ c.loop-at.invariant.indexes;
      survives = survives_then s m t _ _ (λ _. ⊥) (λ _ db none. none) (λ _ db none. none) c.loop-at.invariant.survives c.perform_next.ensures.crash;
      shape = subst (λ (ps : List Question). AreAnswersTo ps ys) more (c.in-Ok.ensures.shape (take i qs) c.loop-at.invariant.shape);
    }

pub returns-in-Err-clause-moves : goal.returns-in-Err-clause-moves
returns-in-Err-clause-moves g c =
    let s = store_state g.S.Store c.args.store.now in
    let m = store_state g.S.Store c.loop-at.store in
    let t = store_state g.S.Store c.perform_next.new.store in
    let first = c.args.edits.now.draft in
    let qs = c.args.questions.now in
    let i = c.loop-at.at in
    let q = c.index-questions-at.result in
    let old = c.loop-at.edits.draft in
    let new = c.perform_next.new.edits.draft in
    let xs = c.loop-at.answers.items in
    let ys = c.perform_next.new.answers.items in
    let why = c.in-Err.reason in
    moved_twice s m t (SoFar first (take i qs) xs old) (PerformsNext q xs ys (Err why) old new) _ c.loop-at.invariant.moves c.in-Err.ensures.moves
    (λ docs mid after h k. stops qs (take i qs) q (drop (suc i) qs) i xs ys why c.refused_at.result first old new docs mid after (split_at qs i q c.loop-at-test.true c.index-questions-at.is) (length_take qs i c.loop-at-test.true) c.refused_at.ensures.0 c.refused_at.ensures.1 h k)

pub returns-in-Err-clause-crash : goal.returns-in-Err-clause-crash
returns-in-Err-clause-crash g c =
    survives_then (store_state g.S.Store c.args.store.now) (store_state g.S.Store c.loop-at.store) (store_state g.S.Store c.perform_next.new.store) _ _ (λ _. ⊥) (λ _ db none. none) (λ _ db none. none) c.loop-at.invariant.survives c.perform_next.ensures.crash

pub returns-in-Err-clause-indexes : goal.returns-in-Err-clause-indexes
returns-in-Err-clause-indexes g c = c.perform_next.ensures.indexes ∙ c.loop-at.invariant.indexes

pub returns-clause-moves : goal.returns-clause-moves
returns-clause-moves g c =
    let s = store_state g.S.Store c.args.store.now in
    let m = store_state g.S.Store c.loop-at.store in
    let first = c.args.edits.now.draft in
    let qs = c.args.questions.now in
    let xs = c.loop-at.answers.items in
    let draft = c.loop-at.edits.draft in
    let all : take c.loop-at.at qs ≡ qs = take_all c.loop-at.at qs (omega (arith, c.loop-at-test.false, c.loop-at.auto.at-end)) in
    moved s m (SoFar first (take c.loop-at.at qs) xs draft) _ c.loop-at.invariant.moves
    (λ docs after h. each_done qs xs first draft docs after (subst (λ (ps : List Question). SoFar first ps xs draft docs after) all h))

pub returns-clause-shape : goal.returns-clause-shape
returns-clause-shape g c =
    let qs = c.args.questions.now in
    subst (λ (ps : List Question). AreAnswersTo ps c.loop-at.answers.items) (take_all c.loop-at.at qs (omega (arith, c.loop-at-test.false, c.loop-at.auto.at-end))) c.loop-at.invariant.shape

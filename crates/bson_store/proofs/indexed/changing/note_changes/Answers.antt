use Rattle.std.proofs.Common.{◌≡◌, ◌<◌, ◌++◌, ◌∷◌, [], ◌∙◌, List, length, take, take_all, sym, ap, subst, arith}
use Rattle.std.proofs.lemmas.List.{take_more}
use Rattle.store_table.specs.Change.{with_changes}
use Rattle.store_table.specs.declared.change.Change.{Change}
use Rattle.store_table.proofs.WholeLemmas.{one_change_more}
use Rattle.bson_store.specs.Changing.{ForgetsRemoved, NoneGives}
use Rattle.bson_store.specs.Kept.{FindsRows}
use Rattle.bson_store.proofs.KeepLemmas.{stay_then}
use Rattle.bson_store.proofs.IndexWholeLemmas.{forgets_more, none_before}
use Rattle.bson_store.proofs.indexed.changing.note_changes.Goals as goal

pub loop-change-preserved : goal.loop-change-preserved
loop-change-preserved c =
    let changes = c.args.changes.now in
    let i = c.loop-change.change-index in
    let h = c.loop-change.invariant in
    let low : i < length changes = omega (arith, c.loop-change-test.true, c.loop-change.auto.change-index-end) in
    let more = take_more changes i c.change-item.result low ∙ ap (λ (x : Change). take i changes ++ x ∷ []) (sym c.change-item.is) in
    record {
      gone = subst (λ (cs : List Change). ForgetsRemoved cs c.note_change.new.indexes) (sym more) (forgets_more (take i changes) c.change-item.result c.loop-change.indexes c.note_change.new.indexes c.note_change.ensures.others c.note_change.ensures.gone h.gone);
      others = λ p b none missed.
          let r = none_before p (take i changes) c.change-item.result (subst (NoneGives p) more none) in
          c.note_change.ensures.others p b r.1 (h.others p b r.0 missed);
      noted = λ docs f. subst (FindsRows c.note_change.new.indexes) (sym (one_change_more changes i c.change-item.result docs low c.change-item.is)) (c.note_change.ensures.noted (with_changes (take i changes) docs) (h.noted docs f));
      none = λ e. c.note_change.ensures.none (h.none e);
      same = stay_then c.args.indexes.now c.loop-change.indexes c.note_change.new.indexes h.same c.note_change.ensures.same;
    }

pub returns-clause-noted : goal.returns-clause-noted
returns-clause-noted c docs f =
    let changes = c.args.changes.now in
    let all : take c.loop-change.change-index changes ≡ changes = take_all c.loop-change.change-index changes (omega (arith, c.loop-change-test.false, c.loop-change.auto.change-index-end)) in
    subst (λ (cs : List Change). FindsRows c.loop-change.indexes (with_changes cs docs)) all (c.loop-change.invariant.noted docs f)

pub returns-clause-gone : goal.returns-clause-gone
returns-clause-gone c =
    let changes = c.args.changes.now in
    let all : take c.loop-change.change-index changes ≡ changes = take_all c.loop-change.change-index changes (omega (arith, c.loop-change-test.false, c.loop-change.auto.change-index-end)) in
    subst (λ (cs : List Change). ForgetsRemoved cs c.loop-change.indexes) all c.loop-change.invariant.gone

pub returns-clause-others : goal.returns-clause-others
returns-clause-others c p b none missed =
    let changes = c.args.changes.now in
    let all : take c.loop-change.change-index changes ≡ changes = take_all c.loop-change.change-index changes (omega (arith, c.loop-change-test.false, c.loop-change.auto.change-index-end)) in
    c.loop-change.invariant.others p b (subst (NoneGives p) (sym all) none) missed

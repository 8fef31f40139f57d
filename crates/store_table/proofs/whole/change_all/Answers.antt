use Rattle.std.proofs.Common.{take_all, ◌≡◌, ◌<◌, ◌+ℤ◌, pos, List, take, length, sym, subst, subst₂, ℤ, rules, arith, refl, OnOk, w64, to_z, of_z}
use Rattle.std.proofs.lemmas.Int.{ints}
use Rattle.sqlite.specs.State.{HasCleanDisk, Survives}
use Rattle.sqlite.specs.Held.{state}
use Rattle.sqlite.proofs.StateLemmas.{survives_then}
use Rattle.sqlite.specs.Tree.{Trees}
use Rattle.store_table.specs.declared.change.Change.{Change}
use Rattle.store_table.specs.Change.{with_changes}
use Rattle.store_table.specs.Rows.{TableRow, AreBelow, HasRows, Inside, HoldsRows}
use Rattle.store_table.proofs.KeyLemmas.{committed_then}
use Rattle.store_table.specs.Beside.{SparesOthers}
use Rattle.store_table.proofs.OthersLemmas.{trees_have, spared_all, spared_then, spared_commit}
use Rattle.store_table.proofs.ManyLemmas.{committed_shows}
use Rattle.store_table.proofs.WholeLemmas.{one_change_more}
use Rattle.store_table.proofs.whole.change_all.Goals as goal

pub loop-change-init : goal.loop-change-init
loop-change-init g c =
    let old = state g.S.Store c.args.conn.now in
    record {
      same = search rules;
      survives = search rules;
      mode = search rules;
      committed = search rules;
      spared = λ clean docs shows. rw c.transaction-tx.ensures.begun (spared_all old.now old.now refl);
      inside = search rules;
      below = search rules;
    }

pub loop-change-preserved : goal.loop-change-preserved
loop-change-preserved g c =
    let old = state g.S.Store c.args.conn.now in
    let mid = state g.S.Store c.loop-change.tx.conn.now in
    let new = state g.S.Store c.change_in.new.tx.conn.now in
    let h = c.loop-change.invariant in
    let changes = c.args.changes.now in
    let i = c.loop-change.change-index in
    let x = c.change-item.result in
    let low : i < length changes = omega (arith, c.loop-change-test.true, c.loop-change.auto.change-index-end) in
    record {
      same = search rules;
      survives = survives_then old mid new _ _ (λ _. ⊥) (λ _ db none. none) (λ _ db none. none) h.survives c.change_in.ensures.crash;
      mode = λ clean. c.in_ok-greatest.ensures.inside clean (h.mode (omega (arith, clean, c.change_in.ensures.crash.clean)));
      committed = λ clean. committed_then old mid new (h.committed (omega (arith, clean, c.change_in.ensures.crash.clean))) (c.change_in.ensures.committed clean (h.mode (omega (arith, clean, c.change_in.ensures.crash.clean))));
      spared = λ clean docs shows.
          let early : HasCleanDisk mid = omega (arith, clean, c.change_in.ensures.crash.clean) in
          spared_then old.now mid.now new.now (h.spared early docs shows) (c.in_ok-greatest.ensures.spared clean docs (with_changes (take i changes) docs) (h.inside early docs shows) (h.below early docs shows));
      inside = λ clean docs shows.
          let early : HasCleanDisk mid = omega (arith, clean, c.change_in.ensures.crash.clean) in
          let got = c.in_ok-greatest.ensures.done clean docs (with_changes (take i changes) docs) (h.inside early docs shows) (h.below early docs shows) in
          subst (λ (ds : List TableRow). Inside new docs ds) (sym (one_change_more changes i x docs low c.change-item.is)) got;
      below = λ clean docs shows.
          let early : HasCleanDisk mid = omega (arith, clean, c.change_in.ensures.crash.clean) in
          let got = c.in_ok-greatest.ensures.below (with_changes (take i changes) docs) (h.below early docs shows) in
          let same : to_z w64 (of_z w64 c.in_ok-greatest.greatest) ≡ c.in_ok-greatest.greatest = omega (arith, ints) in
          subst₂ (λ (q : ℤ) (ds : List TableRow). AreBelow (q +ℤ pos 1) ds) (sym same) (sym (one_change_more changes i x docs low c.change-item.is)) got;
    }

pub returns-clause-crash : goal.returns-clause-crash
returns-clause-crash g c =
    let old = state g.S.Store c.args.conn.now in
    let last = state g.S.Store c.loop-change.tx.conn.now in
    let end = c.commit.new.self.0 in
    let h = c.loop-change.invariant in
    let changes = c.args.changes.now in
    let all : take c.loop-change.change-index changes ≡ changes = take_all c.loop-change.change-index changes (omega (arith, c.loop-change-test.false, c.loop-change.auto.change-index-end)) in
    let P = λ (trees : Trees). (docs : List TableRow) → HoldsRows old docs → HasRows old.now trees (with_changes changes docs) in
    let whole = survives_then old last (state g.S.Store end) _ _ P (λ _ db none. absurd none)
    (λ clean db is docs shows. subst (λ (trees : Trees). HasRows old.now trees (with_changes changes docs)) (sym is) (subst (λ (cs : List Change). HasRows old.now last.now.trees (with_changes cs docs)) all
    (trees_have old.now last.now _ (h.inside (omega (arith, clean, c.commit.ensures.survives.clean)) docs shows).table (h.spared (omega (arith, clean, c.commit.ensures.survives.clean)) docs shows)))) h.survives c.commit.ensures.survives in
    let it : end ≡ c.conn-2-1.given.0 = search rules in
    subst (λ k. Survives old (state g.S.Store k) P) it whole

pub returns-clause-done : goal.returns-clause-done
returns-clause-done g c clean docs shows =
    let last = state g.S.Store c.loop-change.tx.conn.now in
    let end = c.commit.new.self.0 in
    let h = c.loop-change.invariant in
    let changes = c.args.changes.now in
    let all : take c.loop-change.change-index changes ≡ changes = take_all c.loop-change.change-index changes (omega (arith, c.loop-change-test.false, c.loop-change.auto.change-index-end)) in
    let it : end ≡ c.conn-2-1.given.0 = search rules in
    let now : HasCleanDisk (state g.S.Store end) = subst (λ k. HasCleanDisk (state g.S.Store k)) (sym it) clean in
    let inside = subst (λ (cs : List Change). Inside last docs (with_changes cs docs)) all (h.inside (omega (arith, now, c.commit.ensures.survives.clean)) docs shows) in
    let done = committed_shows last (state g.S.Store end) docs (with_changes changes docs) c.commit.result inside c.commit.ensures.ended (c.commit.ensures.ok now) in
    subst (λ k. OnOk c.commit.result (HoldsRows (state g.S.Store k) (with_changes changes docs))) it done

pub returns-clause-spared : goal.returns-clause-spared
returns-clause-spared g c clean docs shows =
    let old = state g.S.Store c.args.conn.now in
    let last = state g.S.Store c.loop-change.tx.conn.now in
    let end = c.commit.new.self.0 in
    let it : end ≡ c.conn-2-1.given.0 = search rules in
    let now : HasCleanDisk (state g.S.Store end) = subst (λ k. HasCleanDisk (state g.S.Store k)) (sym it) clean in
    let done = spared_commit old last (state g.S.Store end) c.commit.result (c.loop-change.invariant.spared (omega (arith, now, c.commit.ensures.survives.clean)) docs shows) (c.commit.ensures.ok now) in
    subst (λ k. OnOk c.commit.result (SparesOthers old.now (state g.S.Store k).now)) it done

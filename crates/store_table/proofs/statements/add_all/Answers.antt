use Rattle.std.proofs.Common.{take_all, subst₂, ◌≡◌, ◌<◌, ◌++◌, ◌∷◌, [], ℤ, pos, ◌+ℤ◌, List, take, get_or, length, append_assoc, sym, ap, subst, ◌∙◌, w64, to_z, of_z, refl, rules, arith}
use Rattle.std.proofs.lemmas.Int.{to_z-of_z, ints}
use Rattle.sqlite.specs.State.{HasCleanDisk, Survives}
use Rattle.sqlite.specs.Held.{state}
use Rattle.sqlite.proofs.StateLemmas.{survives_then, survives_weaker}
use Rattle.sqlite.specs.Tree.{Trees}
use Rattle.store_table.specs.declared.row.NewRow.{NewRow}
use Rattle.store_table.specs.Rows.{TableRow, AreBelow, HasRows, Inside, HoldsRows, docs_from}
use Rattle.store_table.specs.Beside.{SparesOthers}
use Rattle.std.proofs.Common.{OnOk}
use Rattle.store_table.proofs.KeyLemmas.{committed_then}
use Rattle.store_table.proofs.OthersLemmas.{trees_have, spared_all, spared_then, spared_commit}
use Rattle.store_table.proofs.ManyLemmas.{next_rows, below_rows, doc_at, committed_shows}
use Rattle.store_table.proofs.statements.add_all.Goals as goal

pub loop-row-init : goal.loop-row-init
loop-row-init g c =
    let old = state g.S.Store c.args.conn.now in
    record {
      same = search rules;
      survives = search rules;
      mode = search rules;
      committed = search rules;
      spared = λ clean docs shows. rw c.transaction-tx.ensures.begun (spared_all old.now old.now refl);
      inside = search rules;
      place = search rules;
    }

pub loop-row-preserved : goal.loop-row-preserved
loop-row-preserved g c =
    let old = state g.S.Store c.args.conn.now in
    let mid = state g.S.Store c.loop-row.tx.conn.now in
    let new = state g.S.Store c.put.new.tx.conn.now in
    let h = c.loop-row.invariant in
    let P : ℤ = to_z w64 (of_z w64 c.args.last) +ℤ pos 1 in
    let Q : ℤ = to_z w64 (of_z w64 (to_z w64 c.loop-row.place-bits +ℤ pos 1)) in
    let same : P ≡ (c.args.last +ℤ pos 1) = ap (λ q. q +ℤ pos 1) (to_z-of_z w64 c.args.last c.ranges.last) in
    let coll = c.args.coll.now in
    let rows = c.args.rows.now in
    let i = c.loop-row.row-index in
    let low : i < length rows = omega (arith, c.loop-row-test.true, c.loop-row.auto.row-index-end) in
    let at : Q ≡ (P +ℤ pos i) = omega (arith, ints) in
    let made = docs_from P coll (take i rows) in
    let grown = λ (docs : List TableRow) (d : NewRow). ap (λ ys. docs ++ ys) (ap (λ (q : ℤ). made ++ doc_at q coll (get_or rows i d) ∷ []) at ∙ sym (next_rows P coll rows i d low)) in
    record {
      same = search rules;
      survives = survives_then old mid new _ _ (λ _. ⊥) (λ _ db none. none) (λ _ db none. none) h.survives c.put.ensures.crash;
      mode = λ clean. c.in_ok-put.ensures.inside clean (h.mode (omega (arith, clean, c.put.ensures.crash.clean)));
      committed = λ clean. committed_then old mid new (h.committed (omega (arith, clean, c.put.ensures.crash.clean))) (c.put.ensures.committed clean (h.mode (omega (arith, clean, c.put.ensures.crash.clean))));
      spared = λ clean docs shows.
          let was = h.inside (omega (arith, c.put.ensures.crash.clean)) docs shows in
          let first : AreBelow P docs = subst (λ q. AreBelow q docs) (sym same) (c.requires.last (omega (arith, c.put.ensures.crash.clean, h.survives.clean)) docs shows) in
          let below : AreBelow Q (docs ++ made) = subst (λ q. AreBelow q (docs ++ made)) (sym at) (below_rows P coll rows i docs first) in
          spared_then old.now mid.now new.now (h.spared (omega (arith, clean, c.put.ensures.crash.clean)) docs shows) (c.in_ok-put.ensures.spared clean docs (docs ++ made) was below);
      inside = λ clean docs shows.
          let was = h.inside (omega (arith, c.put.ensures.crash.clean)) docs shows in
          let first : AreBelow P docs = subst (λ q. AreBelow q docs) (sym same) (c.requires.last (omega (arith, c.put.ensures.crash.clean, h.survives.clean)) docs shows) in
          let below : AreBelow Q (docs ++ made) = subst (λ q. AreBelow q (docs ++ made)) (sym at) (below_rows P coll rows i docs first) in
          let got = c.in_ok-put.ensures.added clean docs (docs ++ made) was below in
          subst (λ (ds : List TableRow). Inside new docs ds) (append_assoc docs made _ ∙ grown docs _) got;
      place = omega (arith, ints);
    }

pub returns-clause-crash : goal.returns-clause-crash
returns-clause-crash g c =
    let old = state g.S.Store c.args.conn.now in
    let last = state g.S.Store c.loop-row.tx.conn.now in
    let end = c.commit.new.self.0 in
    let h = c.loop-row.invariant in
    let rows = c.args.rows.now in
    let same : (to_z w64 (of_z w64 c.args.last) +ℤ pos 1) ≡ (c.args.last +ℤ pos 1) = ap (λ q. q +ℤ pos 1) (to_z-of_z w64 c.args.last c.ranges.last) in
    let all : take c.loop-row.row-index rows ≡ rows = take_all c.loop-row.row-index rows (omega (arith, c.loop-row-test.false, c.loop-row.auto.row-index-end)) in
    let P = λ (trees : Trees). (docs : List TableRow) → HoldsRows old docs → HasRows old.now trees (docs ++ docs_from (c.args.last +ℤ pos 1) c.args.coll.now rows) in
    let whole = survives_then old last (state g.S.Store end) _ _ P (λ _ db none. absurd none)
    (λ clean db is docs shows. subst (λ (trees : Trees). HasRows old.now trees (docs ++ docs_from (c.args.last +ℤ pos 1) c.args.coll.now rows)) (sym is) (subst₂ (λ (q : ℤ) (rs : List NewRow). HasRows old.now last.now.trees (docs ++ docs_from q c.args.coll.now rs)) same all
    (trees_have old.now last.now _ (h.inside (omega (arith, clean, c.commit.ensures.survives.clean)) docs shows).table (h.spared (omega (arith, clean, c.commit.ensures.survives.clean)) docs shows)))) h.survives c.commit.ensures.survives in
    let it : end ≡ c.conn-2-1.given.0 = search rules in
    subst (λ k. Survives old (state g.S.Store k) P) it whole

pub returns-clause-added : goal.returns-clause-added
returns-clause-added g c clean docs shows =
    let last = state g.S.Store c.loop-row.tx.conn.now in
    let end = c.commit.new.self.0 in
    let h = c.loop-row.invariant in
    let rows = c.args.rows.now in
    let same : (to_z w64 (of_z w64 c.args.last) +ℤ pos 1) ≡ (c.args.last +ℤ pos 1) = ap (λ q. q +ℤ pos 1) (to_z-of_z w64 c.args.last c.ranges.last) in
    let all : take c.loop-row.row-index rows ≡ rows = take_all c.loop-row.row-index rows (omega (arith, c.loop-row-test.false, c.loop-row.auto.row-index-end)) in
    let it : end ≡ c.conn-2-1.given.0 = search rules in
    let now : HasCleanDisk (state g.S.Store end) = subst (λ k. HasCleanDisk (state g.S.Store k)) (sym it) clean in
    let inside = subst₂ (λ (q : ℤ) (rs : List NewRow). Inside last docs (docs ++ docs_from q c.args.coll.now rs)) same all (h.inside (omega (arith, now, c.commit.ensures.survives.clean)) docs shows) in
    let done = committed_shows last (state g.S.Store end) docs (docs ++ docs_from (c.args.last +ℤ pos 1) c.args.coll.now rows) c.commit.result inside c.commit.ensures.ended (c.commit.ensures.ok now) in
    subst (λ k. OnOk c.commit.result (HoldsRows (state g.S.Store k) (docs ++ docs_from (c.args.last +ℤ pos 1) c.args.coll.now rows))) it done

pub returns-clause-spared : goal.returns-clause-spared
returns-clause-spared g c clean docs shows =
    let old = state g.S.Store c.args.conn.now in
    let last = state g.S.Store c.loop-row.tx.conn.now in
    let end = c.commit.new.self.0 in
    let it : end ≡ c.conn-2-1.given.0 = search rules in
    let now : HasCleanDisk (state g.S.Store end) = subst (λ k. HasCleanDisk (state g.S.Store k)) (sym it) clean in
    let done = spared_commit old last (state g.S.Store end) c.commit.result (c.loop-row.invariant.spared (omega (arith, now, c.commit.ensures.survives.clean)) docs shows) (c.commit.ensures.ok now) in
    subst (λ k. OnOk c.commit.result (SparesOthers old.now (state g.S.Store k).now)) it done

pub returns-in_err-put-clause-crash : goal.returns-in_err-put-clause-crash
returns-in_err-put-clause-crash g c =
    let kept : Survives (state g.S.Store c.args.conn.now) (state g.S.Store c.conn-1.given.0) (λ _. ⊥) = search (rules, survives_then) in
    survives_weaker _ _ _ _ (λ _ db none. absurd none) kept

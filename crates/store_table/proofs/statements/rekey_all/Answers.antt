use Rattle.std.proofs.Common.{take_all, ◌≡◌, ◌<◌, ◌∙◌, List, take, length, sym, subst, rules, arith, OnOk, false}
use Rattle.sqlite.specs.State.{HasCleanDisk, Survives, Shows as Sees}
use Rattle.store_table.specs.Keys.{PutsKeys}
use Rattle.store_table.specs.Renewal.{MayPut}
use Rattle.store_table.proofs.PutLemmas.{same_put, puts_on, puts_committed}
use Rattle.sqlite.specs.Held.{state}
use Rattle.sqlite.proofs.StateLemmas.{survives_then, survives_weaker}
use Rattle.sqlite.specs.Tree.{Trees}
use Rattle.store_table.specs.declared.row.NewKey.{NewKey}
use Rattle.store_table.specs.Rows.{TableRow, HasRows, Inside, HoldsRows, with_keys_at}
use Rattle.store_table.proofs.KeyLemmas.{all_but_one, same_rekey, committed_then}
use Rattle.store_table.specs.Beside.{SparesOthers}
use Rattle.store_table.proofs.OthersLemmas.{trees_have, spared_then, spared_commit}
use Rattle.store_table.proofs.ManyLemmas.{committed_shows}
use Rattle.store_table.proofs.statements.rekey_all.Goals as goal

pub loop-key-preserved : goal.loop-key-preserved
loop-key-preserved g c =
    let old = state g.S.Store c.args.conn.now in
    let mid = state g.S.Store c.loop-key.tx.conn.now in
    let new = state g.S.Store c.rekey.new.tx.conn.now in
    let h = c.loop-key.invariant in
    let keys = c.args.keys.now in
    let i = c.loop-key.key-index in
    let k = c.key-item.result in
    let low : i < length keys = omega (arith, c.loop-key-test.true, c.loop-key.auto.key-index-end) in
    record {
      same = search rules;
      survives = survives_then old mid new _ _ (λ _. ⊥) (λ _ db none. none) (λ _ db none. none) h.survives c.rekey.ensures.crash;
      mode = λ clean. c.in_ok-rekey.ensures.inside clean (h.mode (omega (arith, clean, c.rekey.ensures.crash.clean)));
      committed = λ clean. committed_then old mid new (h.committed (omega (arith, clean, c.rekey.ensures.crash.clean))) (c.rekey.ensures.committed clean (h.mode (omega (arith, clean, c.rekey.ensures.crash.clean))));
      puts = λ clean.
          let early : HasCleanDisk mid = omega (arith, clean, c.rekey.ensures.crash.clean) in
          puts_on old.step_limit keys i k old.now mid.now new.now low c.key-item.is (h.puts early)
          (same_put mid.step_limit old.step_limit _ k.place c.as_slice.result.now k.idkey.items mid.now new.now h.survives.limit (search rules) c.as_slice.ensures.value (c.in_ok-rekey.ensures.puts clean (h.mode early)));
      spared = λ clean docs shows.
          let was = h.inside (omega (arith, c.rekey.ensures.crash.clean)) docs shows in
          spared_then old.now mid.now new.now (h.spared (omega (arith, clean, c.rekey.ensures.crash.clean)) docs shows) (c.in_ok-rekey.ensures.spared clean docs (with_keys_at (take i keys) docs) was);
      inside = λ clean docs shows.
          let was = h.inside (omega (arith, c.rekey.ensures.crash.clean)) docs shows in
          let got = c.in_ok-rekey.ensures.done clean docs (with_keys_at (take i keys) docs) was in
          subst (λ (ds : List TableRow). Inside new docs ds) (same_rekey _ k.place c.as_slice.result.now k.idkey.items (with_keys_at (take i keys) docs) (search rules) c.as_slice.ensures.value ∙ sym (all_but_one keys i k docs low c.key-item.is)) got;
    }

pub returns-clause-crash : goal.returns-clause-crash
returns-clause-crash g c =
    let old = state g.S.Store c.args.conn.now in
    let last = state g.S.Store c.loop-key.tx.conn.now in
    let end = c.commit.new.self.0 in
    let h = c.loop-key.invariant in
    let keys = c.args.keys.now in
    let all : take c.loop-key.key-index keys ≡ keys = take_all c.loop-key.key-index keys (omega (arith, c.loop-key-test.false, c.loop-key.auto.key-index-end)) in
    let P : Trees → Type 0 = MayPut keys old in
    let whole = survives_then old last (state g.S.Store end) _ _ P (λ _ db none. absurd none)
    (λ clean db is. let early : HasCleanDisk last = omega (arith, clean, c.commit.ensures.survives.clean) in record {
      shown = λ docs shows. subst (λ (trees : Trees). HasRows old.now trees (with_keys_at keys docs)) (sym is) (subst (λ (ks : List NewKey). HasRows old.now last.now.trees (with_keys_at ks docs)) all
          (trees_have old.now last.now _ (h.inside early docs shows).table (h.spared early docs shows)));
      put = (last.now, subst (λ (ks : List NewKey). PutsKeys old.step_limit ks old.now last.now) all (h.puts early), is);
    }) h.survives c.commit.ensures.survives in
    let it : end ≡ c.conn-2-1.given.0 = search rules in
    subst (λ k. Survives old (state g.S.Store k) P) it whole

pub returns-clause-done : goal.returns-clause-done
returns-clause-done g c clean docs shows =
    let last = state g.S.Store c.loop-key.tx.conn.now in
    let end = c.commit.new.self.0 in
    let h = c.loop-key.invariant in
    let keys = c.args.keys.now in
    let all : take c.loop-key.key-index keys ≡ keys = take_all c.loop-key.key-index keys (omega (arith, c.loop-key-test.false, c.loop-key.auto.key-index-end)) in
    let it : end ≡ c.conn-2-1.given.0 = search rules in
    let now : HasCleanDisk (state g.S.Store end) = subst (λ k. HasCleanDisk (state g.S.Store k)) (sym it) clean in
    let inside = subst (λ (ks : List NewKey). Inside last docs (with_keys_at ks docs)) all (h.inside (omega (arith, now, c.commit.ensures.survives.clean)) docs shows) in
    let done = committed_shows last (state g.S.Store end) docs (with_keys_at keys docs) c.commit.result inside c.commit.ensures.ended (c.commit.ensures.ok now) in
    subst (λ k. OnOk c.commit.result (HoldsRows (state g.S.Store k) (with_keys_at keys docs))) it done

pub returns-clause-spared : goal.returns-clause-spared
returns-clause-spared g c clean docs shows =
    let old = state g.S.Store c.args.conn.now in
    let last = state g.S.Store c.loop-key.tx.conn.now in
    let end = c.commit.new.self.0 in
    let it : end ≡ c.conn-2-1.given.0 = search rules in
    let now : HasCleanDisk (state g.S.Store end) = subst (λ k. HasCleanDisk (state g.S.Store k)) (sym it) clean in
    let done = spared_commit old last (state g.S.Store end) c.commit.result (c.loop-key.invariant.spared (omega (arith, now, c.commit.ensures.survives.clean)) docs shows) (c.commit.ensures.ok now) in
    subst (λ k. OnOk c.commit.result (SparesOthers old.now (state g.S.Store k).now)) it done

pub returns-in_err-rekey-clause-crash : goal.returns-in_err-rekey-clause-crash
returns-in_err-rekey-clause-crash g c =
    let kept : Survives (state g.S.Store c.args.conn.now) (state g.S.Store c.conn-1.given.0) (λ _. ⊥) = search (rules, survives_then) in
    survives_weaker _ _ _ _ (λ _ db none. absurd none) kept

pub returns-clause-puts : goal.returns-clause-puts
returns-clause-puts g c clean =
    let old = state g.S.Store c.args.conn.now in
    let last = state g.S.Store c.loop-key.tx.conn.now in
    let end = c.commit.new.self.0 in
    let h = c.loop-key.invariant in
    let keys = c.args.keys.now in
    let all : take c.loop-key.key-index keys ≡ keys = take_all c.loop-key.key-index keys (omega (arith, c.loop-key-test.false, c.loop-key.auto.key-index-end)) in
    let it : end ≡ c.conn-2-1.given.0 = search rules in
    let now : HasCleanDisk (state g.S.Store end) = subst (λ k. HasCleanDisk (state g.S.Store k)) (sym it) clean in
    let early : HasCleanDisk last = omega (arith, now, c.commit.ensures.survives.clean) in
    let done = puts_committed old last (state g.S.Store end) keys c.commit.result (h.committed early) (subst (λ (ks : List NewKey). PutsKeys old.step_limit ks old.now last.now) all (h.puts early)) (c.commit.ensures.ok now) in
    subst (λ k. OnOk c.commit.result (Sees old (state g.S.Store k) (state g.S.Store k).now (state g.S.Store k).now false × PutsKeys old.step_limit keys old.now (state g.S.Store k).now)) it done

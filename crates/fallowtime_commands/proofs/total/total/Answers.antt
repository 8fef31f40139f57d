use Rattle.std.proofs.Common.{◌<◌, ◌+◌, ◌∙◌, ap, arith, length, map, Err, Ok, refl}
use Rattle.std.specs.Prelude.{string_bytes}
use Rattle.std.proofs.lemmas.List.{length-map}
use Rattle.std.proofs.lemmas.Result.{err_from_is_err_and}
use Rattle.sqlite.proofs.StateLemmas.{survives_then}
use Rattle.store_asked.specs.Asking.{AskedFrom}
use Rattle.store_model.specs.State.{collections, names}
use Rattle.bson_store.proofs.MoveLemmas.{moved, moved_twice}
use Rattle.bson_store.specs.Calls.{Does, store_state}
use Rattle.fallowtime_commands.specs.Asking.{IsNumberOf, Totals}
use Rattle.fallowtime_commands.proofs.TotalLemmas.{Sums, at_name, counted, none_yet, one_more, opened_then, too_many, uncounted}
use Rattle.fallowtime_commands.proofs.total.total.Goals as goal

pub returns-in_err-names-clause-moves : goal.returns-in_err-names-clause-moves
returns-in_err-names-clause-moves g c =
    let p = err_from_is_err_and c.from_residual.result c.from_residual.ensures.1 in
    rw (p.1, p.2) c.in_err-names.ensures.moves

pub loop-name-init : goal.loop-name-init
loop-name-init g c =
    let s = store_state g.S.Store c.args.store.now in
    let t = store_state g.S.Store c.collections.new.self in
    let ns = map string_bytes c.in_ok-names.names.items in
    record {
      moves = rw c.as_slice-name-items.ensures.value (moved s t (Does collections (names ns)) (Sums ns 0 0) c.in_ok-names.ensures.moves (λ docs after h. none_yet ns docs after h));
      asks = c.ask_for_all-everything.ensures;
      crash = c.in_ok-names.ensures.crash;
      opened = c.in_ok-names.ensures.open;
    }

pub loop-name-preserved : goal.loop-name-preserved
loop-name-preserved g c =
    let s = store_state g.S.Store c.args.store.now in
    let m = store_state g.S.Store c.loop-name.store in
    let t = store_state g.S.Store c.count.new.store in
    let all = c.as_slice-name-items.result.now in
    let ns = map string_bytes all in
    let i = c.loop-name.name-index in
    let k = c.loop-name.total in
    let n = c.as_str.result.now in
    let number = c.in_ok-number.number in
    let low : i < length all = let h = c.loop-name-test.true in omega (arith, h) in
    let here = at_name all i _ n low (c.as_str.ensures.value ∙ ap string_bytes c.name-item.is) in
    record {
      moves = moved_twice s m t (Sums ns i k) (AskedFrom IsNumberOf n _ (Ok number)) (Sums ns (i + 1) c.in-Some.sum) c.loop-name.invariant.moves c.in_ok-number.ensures.moves
          (λ docs mid after h asked. one_more ns i k n _ docs mid after here.0 here.1 c.loop-name.invariant.asks h number c.in-Some.sum c.in-Some.ensures.1 asked);
      asks = c.loop-name.invariant.asks;
      crash = survives_then s m t (λ _. ⊥) (λ _. ⊥) (λ _. ⊥) (λ _ db none. none) (λ _ db none. none) c.loop-name.invariant.crash c.in_ok-number.ensures.crash;
      opened = opened_then s m t (Sums ns i k) (AskedFrom IsNumberOf n _ (Ok number)) k c.in-Some.sum number c.loop-name.invariant.moves c.in_ok-number.ensures.moves c.loop-name.invariant.opened c.in_ok-number.ensures.open;
    }

pub returns-in_err-number-clause-moves : goal.returns-in_err-number-clause-moves
returns-in_err-number-clause-moves g c =
    let s = store_state g.S.Store c.args.store.now in
    let m = store_state g.S.Store c.loop-name.store in
    let t = store_state g.S.Store c.count.new.store in
    let all = c.as_slice-name-items.result.now in
    let ns = map string_bytes all in
    let i = c.loop-name.name-index in
    let k = c.loop-name.total in
    let n = c.as_str.result.now in
    let e = c.in_err-number.field-0.0 in
    let low : i < length all = let h = c.loop-name-test.true in omega (arith, h) in
    let here = at_name all i _ n low (c.as_str.ensures.value ∙ ap string_bytes c.name-item.is) in
    let p = err_from_is_err_and c.from_residual-in_err-number.result c.from_residual-in_err-number.ensures.1 in
    rw (p.1, p.2)
    (moved_twice s m t (Sums ns i k) (AskedFrom IsNumberOf n _ (Err e)) (Totals (Err e)) c.loop-name.invariant.moves c.in_err-number.ensures.moves
    (λ docs mid after h asked. uncounted ns i k n _ docs mid after here.0 here.1 c.loop-name.invariant.asks h e asked))

pub returns-in_err-number-clause-crash : goal.returns-in_err-number-clause-crash
returns-in_err-number-clause-crash g c =
    survives_then (store_state g.S.Store c.args.store.now) (store_state g.S.Store c.loop-name.store) (store_state g.S.Store c.count.new.store) (λ _. ⊥) (λ _. ⊥) (λ _. ⊥) (λ _ db none. none) (λ _ db none. none) c.loop-name.invariant.crash c.in_err-number.ensures.crash

pub returns-in-None-clause-moves : goal.returns-in-None-clause-moves
returns-in-None-clause-moves g c =
    let s = store_state g.S.Store c.args.store.now in
    let m = store_state g.S.Store c.loop-name.store in
    let t = store_state g.S.Store c.count.new.store in
    let all = c.as_slice-name-items.result.now in
    let ns = map string_bytes all in
    let i = c.loop-name.name-index in
    let k = c.loop-name.total in
    let n = c.as_str.result.now in
    let number = c.in_ok-number.number in
    let low : i < length all = let h = c.loop-name-test.true in omega (arith, h) in
    let here = at_name all i _ n low (c.as_str.ensures.value ∙ ap string_bytes c.name-item.is) in
    moved_twice s m t (Sums ns i k) (AskedFrom IsNumberOf n _ (Ok number)) (Totals (Err c.from.result)) c.loop-name.invariant.moves c.in_ok-number.ensures.moves
    (λ docs mid after h asked. too_many ns (i + 1) (k + number) c.from.result docs after c.from.ensures (one_more ns i k n _ docs mid after here.0 here.1 c.loop-name.invariant.asks h number (k + number) refl asked))

pub returns-in-None-clause-crash : goal.returns-in-None-clause-crash
returns-in-None-clause-crash g c =
    survives_then (store_state g.S.Store c.args.store.now) (store_state g.S.Store c.loop-name.store) (store_state g.S.Store c.count.new.store) (λ _. ⊥) (λ _. ⊥) (λ _. ⊥) (λ _ db none. none) (λ _ db none. none) c.loop-name.invariant.crash c.in_ok-number.ensures.crash

pub returns-clause-moves : goal.returns-clause-moves
returns-clause-moves g c =
    let s = store_state g.S.Store c.args.store.now in
    let t = store_state g.S.Store c.loop-name.store in
    let all = c.as_slice-name-items.result.now in
    let ns = map string_bytes all in
    let i = c.loop-name.name-index in
    let k = c.loop-name.total in
    let end = c.loop-name-test.false in
    moved s t (Sums ns i k) (Totals (Ok k)) c.loop-name.invariant.moves (λ docs after h. counted ns i k docs after (omega (arith, end, length-map all string_bytes)) h)

pub returns-clause-open : goal.returns-clause-open
returns-clause-open g c = c.loop-name.invariant.opened

pub returns-clause-crash : goal.returns-clause-crash
returns-clause-crash g c = c.loop-name.invariant.crash

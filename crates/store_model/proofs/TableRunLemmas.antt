-- Runs through tables go on by one command more.
use Rattle.std.proofs.Common.{◌≡◌, ◌≢◌, ℕ, suc, ◌+◌, ◌<◌, List, [], ◌∷◌, ◌++◌, length, true, false, cond, Some, None, refl, ap, ◌∙◌, sym, subst, arith, ne_eqb, eq-eqb}
use Rattle.std.specs.Ordering.{nat_cmp, eq_by_cmp}
use Rattle.std.specs.FinMap.{get, get-insert, get-remove, insert as with_entry, remove as without_key}
use Rattle.std.proofs.lemmas.Cmp.{nat_cmp_total}
use Rattle.std.specs.Cmp.{unsigned_ties}
use Rattle.store_model.specs.State.{Command, Reply}
use Rattle.store_model.specs.Run.{Denials}
use Rattle.store_model.specs.Table.{DocumentTable, TurnThrough, Serves, RunThrough}

run_last : (w v : Denials) (i n : ℕ) (a : DocumentTable) (cs : List Command) (rs : List Reply) (m b : DocumentTable) (c : Command) (r : Reply) → i + length cs ≡ n → ((j : ℕ) → j < n → get w j ≡ get v j) → RunThrough w i a cs rs m
    → TurnThrough (get v n) m c r b → RunThrough v i a (cs ++ c ∷ []) (rs ++ r ∷ []) b
run_last w v i n a [] [] m b c r is same run turn =
    let e : n ≡ i = omega (arith, is) in
    (b, subst (λ x. TurnThrough (get v i) x c r b) run (subst (λ (j : ℕ). TurnThrough (get v j) m c r b) e turn), refl)
run_last w v i n a [] (q ∷ rs) m b c r is same run turn = absurd run
run_last w v i n a (d ∷ cs) [] m b c r is same run turn = absurd run
run_last w v i n a (d ∷ cs) (q ∷ rs) m b c r is same run turn =
    (run.0, subst (λ x. TurnThrough x a d q run.0) (same i (omega (arith, is))) run.1, run_last w v (suc i) n run.0 cs rs m b c r (omega (arith, is)) same run.2 turn)

pub unlike : (j n : ℕ) → j ≢ n → eq_by_cmp nat_cmp j n ≡ false
unlike j n h = sym (unsigned_ties j n) ∙ ne_eqb j n h

pub alike : (n : ℕ) → eq_by_cmp nat_cmp n n ≡ true
alike n = sym (unsigned_ties n n) ∙ eq-eqb n n refl

pub one_more : (w : Denials) (a m b : DocumentTable) (cs : List Command) (rs : List Reply) (c : Command) (r : Reply) → RunThrough w 0 a cs rs m → Serves m c r b
    → (v : Denials) × RunThrough v 0 a (cs ++ c ∷ []) (rs ++ r ∷ []) b
one_more w a m b cs rs c r run (None, turn) =
    let n = length cs in
    let v = without_key w n in
    let here : get v n ≡ None = get-remove nat_cmp_total w n n ∙ ap (λ z. cond z None (get w n)) (alike n) in
    let there : (j : ℕ) → j < n → get w j ≡ get v j = λ j k. sym (get-remove nat_cmp_total w n j ∙ ap (λ z. cond z None (get w j)) (unlike j n (λ e. omega (arith, k, e)))) in
    (v, run_last w v 0 n a cs rs m b c r (omega arith) there run (subst (λ x. TurnThrough x m c r b) (sym here) turn))
one_more w a m b cs rs c r run (Some y, turn) =
    let n = length cs in
    let v = with_entry w n y in
    let here : get v n ≡ Some y = get-insert nat_cmp_total w n y n ∙ ap (λ z. cond z (Some y) (get w n)) (alike n) in
    let there : (j : ℕ) → j < n → get w j ≡ get v j = λ j k. sym (get-insert nat_cmp_total w n y j ∙ ap (λ z. cond z (Some y) (get w j)) (unlike j n (λ e. omega (arith, k, e)))) in
    (v, run_last w v 0 n a cs rs m b c r (omega arith) there run (subst (λ x. TurnThrough x m c r b) (sym here) turn))

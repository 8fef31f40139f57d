-- Sums of numbers of which one is much greater.
use Rattle.std.proofs.Common.{◌≡◌, ℕ, ◌+◌, ◌-◌, ◌*◌, ◌/◌, ◌%◌, ◌^◌, ◌<◌, ◌≤◌, ◌⊎◌, inl, inr, Bool, true, false, if◌then◌else◌, sym, ap, ◌∙◌, subst, arith, lit<, mul_comm, mul_assoc, mod-lt, mod-eq_of_lt, div-add-mod', ◌==◌}
use Rattle.std.specs.Prelude.{min}
use Rattle.std.specs.Cmp.{nat_cmp_is, ranks}
use Rattle.std.specs.Ordering.{MatchOrdering, nat_cmp, match_ordering}
use Rattle.std.specs.declared.cmp.Ordering.{Ordering}
use Rattle.std.specs.declared.cmp.Ordering.TheVariants.{Less, Equal, Greater}
use Rattle.std.proofs.Math.Nat.{pow-le-pow_right}
use Rattle.std.proofs.Math.Nat.{div-eq_of_lt}
use Rattle.std.proofs.lemmas.Bool.Decides.{nat_tests}
use Rattle.bson_decimal.specs.Wides.{sticky_quotient}
use Rattle.std.proofs.lemmas.Bool.{cases_lt}
use Rattle.std.proofs.lemmas.Nat.{mul-le, pow-add}
use Rattle.bson_decimal.specs.Arithmetic.{nearest, decimal_of, signed_sum, add}
use Rattle.bson_decimal.specs.declared.decimal.Decimal.{Decimal}
use Rattle.bson_decimal.specs.declared.decimal.Decimal.TheVariants.{Finite}
use Rattle.bson_decimal.proofs.RoundLemmas.{nearest_split}

-- ---- the same number by other words

pub power_moved : (c z k : ℕ) → z ≤ k → c * 10 ^ z * 10 ^ (k - z) ≡ c * 10 ^ k
power_moved c z k h =
    let whole : z + (k - z) ≡ k = omega arith in
    mul_assoc c (10 ^ z) (10 ^ (k - z)) ∙ ap (λ n. c * n) (sym (pow-add 10 z (k - z)) ∙ ap (λ n. 10 ^ n) whole)

pub wide_room : (c d k m n : ℕ) → c < 10 ^ 34 → d < 10 ^ 34 → k ≤ 34 → m ≡ c * 10 ^ k → n ≡ 0 * 10 ^ 34 + d → m + n < 10 ^ 68
wide_room c d k m n hc hd hk e f =
    let up : 10 ^ k ≤ 10 ^ 34 = pow-le-pow_right (lit< tt) hk in
    let step : c * 10 ^ k ≤ (10 ^ 34 - 1) * 10 ^ 34 = mul-le c (10 ^ k) (10 ^ 34 - 1) (10 ^ 34) (omega arith) up in
    omega (arith, step, hd)

pub signed_sum_of : (s t : Bool) (m m2 n n2 x : ℕ) → m ≡ m2 → n ≡ n2 → signed_sum s m t n x ≡ signed_sum s m2 t n2 x
signed_sum_of s t m m2 n n2 x e f = ap (λ m. signed_sum s m t n x) e ∙ ap (λ n. signed_sum s m2 t n x) f

-- ---- near a much greater number

cases_five : (v : ℕ) → (v % 5 ≡ 0) ⊎ ((v % 5 ≡ 4) ⊎ (v % 5 < 4))
cases_five v = by (v % 5) (cases_lt 0 (v % 5)) (cases_lt (v % 5) 4) (omega arith)
  where
    by : (n : ℕ) → (0 < n) ⊎ (n ≤ 0) → (n < 4) ⊎ (4 ≤ n) → n < 5 → (n ≡ 0) ⊎ ((n ≡ 4) ⊎ (n < 4))
    by n (inr z) h l = inl (omega arith)
    by n (inl z) (inl h) l = inr (inr h)
    by n (inl z) (inr h) l = inr (inl (omega arith))

-- by how the remainder of b and the one of what stands for it compare with half of the divisor
half_close : (v p r e a : ℕ) → 0 < p → r < p → a ≤ 1 → (r ≡ 0 → a ≡ 0) → (0 < r → v % 5 ≡ 0 → a ≡ 1) → (0 < r → v % 5 ≡ 4 → a ≡ 0)
    → nat_cmp (2 * (v * p + r)) (p * (10 * e)) ≡ nat_cmp (2 * (v + a)) (10 * e)
half_close v p r e a hp hr one none tie under = by (cases_lt v (5 * e))
  where
    turn : p * (10 * e) ≡ 2 * (5 * e * p)
    turn = grind arith

    lower : v < 5 * e → (v + a < 5 * e)
    lower l = inner (cases_lt 0 r)
      where
        apart_of : (v % 5 ≡ 0) ⊎ ((v % 5 ≡ 4) ⊎ (v % 5 < 4)) → (v % 5 ≡ 0 → a ≡ 1) → (v % 5 ≡ 4 → a ≡ 0) → v + a < 5 * e
        apart_of (inl f) t u = let m = t f in omega arith
        apart_of (inr (inl f)) t u = let m = u f in omega arith
        apart_of (inr (inr f)) t u = omega arith

        inner : (0 < r) ⊎ (r ≤ 0) → v + a < 5 * e
        inner (inl some) = apart_of (cases_five v) (tie some) (under some)
        inner (inr nil) = let z : a ≡ 0 = none (omega arith) in omega arith

    by : (v < 5 * e) ⊎ (5 * e ≤ v) → nat_cmp (2 * (v * p + r)) (p * (10 * e)) ≡ nat_cmp (2 * (v + a)) (10 * e)
    by (inl l) =
        let step : (v + 1) * p ≤ 5 * e * p = mul-le (v + 1) p (5 * e) p (omega (arith, l)) (omega arith) in
        let out : (v + 1) * p ≡ v * p + p = grind arith in
        let less : 2 * (v * p + r) < p * (10 * e) = omega (arith, step, out, turn) in
        let less2 : 2 * (v + a) < 10 * e = let l2 = lower l in omega (arith, l2) in
        sym (nat_cmp_is (2 * (v * p + r)) (p * (10 * e)) Less less) ∙ nat_cmp_is (2 * (v + a)) (10 * e) Less less2
    by (inr g) = at_least (cases_lt (5 * e) v) (cases_lt 0 r)
      where
        step : 5 * e * p ≤ v * p
        step = mul-le (5 * e) p v p g (omega arith)

        at_least : (5 * e < v) ⊎ (v ≤ 5 * e) → (0 < r) ⊎ (r ≤ 0) → nat_cmp (2 * (v * p + r)) (p * (10 * e)) ≡ nat_cmp (2 * (v + a)) (10 * e)
        at_least (inl more) some =
            let step2 : (5 * e + 1) * p ≤ v * p = mul-le (5 * e + 1) p v p (omega arith) (omega arith) in
            let out : (5 * e + 1) * p ≡ 5 * e * p + p = grind arith in
            let great : p * (10 * e) < 2 * (v * p + r) = omega (arith, step2, out, turn) in
            let great2 : 10 * e < 2 * (v + a) = omega arith in
            sym (nat_cmp_is (2 * (v * p + r)) (p * (10 * e)) Greater great) ∙ nat_cmp_is (2 * (v + a)) (10 * e) Greater great2
        at_least (inr same) (inl some) =
            let five : v % 5 ≡ 0 = omega arith in
            let up : a ≡ 1 = tie some five in
            let great : p * (10 * e) < 2 * (v * p + r) = let s = step in omega (arith, s, turn) in
            let great2 : 10 * e < 2 * (v + a) = omega arith in
            sym (nat_cmp_is (2 * (v * p + r)) (p * (10 * e)) Greater great) ∙ nat_cmp_is (2 * (v + a)) (10 * e) Greater great2
        at_least (inr same) (inr nil) =
            let z : a ≡ 0 = none (omega arith) in
            let v_is : v ≡ 5 * e = omega arith in
            let level : 2 * (v * p + r) ≡ p * (10 * e) = let f : v * p ≡ 5 * e * p = ap (λ n. n * p) v_is in omega (arith, f, turn) in
            let level2 : 2 * (v + a) ≡ 10 * e = omega arith in
            sym (nat_cmp_is (2 * (v * p + r)) (p * (10 * e)) Equal level) ∙ nat_cmp_is (2 * (v + a)) (10 * e) Equal level2

-- a number in units p, with r more, is rounded as one that isn't at a tie where r is some
pub nearest_close : (b p r e a : ℕ) → 0 < p → 0 < e → r < p → a ≤ 1 → (r ≡ 0 → a ≡ 0) → (0 < r → b % 5 ≡ 0 → a ≡ 1) → (0 < r → b % 5 ≡ 4 → a ≡ 0)
    → nearest (b * p + r) (p * (10 * e)) ≡ nearest (b + a) (10 * e)
nearest_close b p r e a hp he hr one none tie under =
    sym (nearest_split (b * p + r) u (p * (10 * e)) (v * p + r) first room)
    ∙ ap (λ o. u + match_ordering o 0 (u % 2) 1) (half_close v p r e a hp hr one none (λ s f. tie s (same5 ∙ f)) (λ s f. under s (same5 ∙ f)))
    ∙ nearest_split (b + a) u (10 * e) (v + a) second room2
  where
    u : ℕ
    u = b / (10 * e)

    v : ℕ
    v = b % (10 * e)

    whole : b / (10 * e) * (10 * e) + b % (10 * e) ≡ b
    whole = div-add-mod' b (10 * e)

    less : b % (10 * e) < 10 * e
    less = mod-lt b (omega arith)

    turn : (u d p v r : ℕ) → (u * d + v) * p + r ≡ u * (p * d) + (v * p + r)
    turn u d p v r = grind arith

    first : b * p + r ≡ b / (10 * e) * (p * (10 * e)) + (b % (10 * e) * p + r)
    first = ap (λ n. n * p + r) (sym whole) ∙ turn (b / (10 * e)) (10 * e) p (b % (10 * e)) r

    room : b % (10 * e) * p + r < p * (10 * e)
    room =
        let step : (b % (10 * e) + 1) * p ≤ 10 * e * p = mul-le (b % (10 * e) + 1) p (10 * e) p (let l = less in omega (arith, l)) (omega arith) in
        let out : (b % (10 * e) + 1) * p ≡ b % (10 * e) * p + p = grind arith in
        let turned : 10 * e * p ≡ p * (10 * e) = mul_comm (10 * e) p in
        omega (arith, step, out, turned, hr)

    second : b + a ≡ b / (10 * e) * (10 * e) + (b % (10 * e) + a)
    second = let w = whole in omega (arith, w)

    five : (b u e v : ℕ) → u * (10 * e) + v ≡ b → b % 5 ≡ v % 5
    five b u e v h = let out : u * (10 * e) ≡ 10 * (u * e) = grind arith in omega (arith, h, out)

    same5 : b % 5 ≡ b % (10 * e) % 5
    same5 = five b (b / (10 * e)) e (b % (10 * e)) whole

    -- at nine there is nothing to add
    room2 : b % (10 * e) + a < 10 * e
    room2 = inner (cases_lt 0 r)
      where
        nine : (b % (10 * e) % 5 < 4) ⊎ (4 ≤ b % (10 * e) % 5) → (b % 5 ≡ 4 → a ≡ 0) → b % (10 * e) + a < 10 * e
        nine (inl few) u = let l = less in omega (arith, l)
        nine (inr most) u = let f = same5 in let four : b % 5 ≡ 4 = omega (arith, f) in let z = u four in let l = less in omega (arith, l, z)

        inner : (0 < r) ⊎ (r ≤ 0) → b % (10 * e) + a < 10 * e
        inner (inl some) = nine (cases_lt (b % (10 * e) % 5) 4) (under some)
        inner (inr nil) = let l = less in let z : a ≡ 0 = none (omega arith) in omega (arith, l, z)

pub tens_some : (m p : ℕ) → 0 < m → p ≡ 10 ^ m → 1 < p
tens_some m p h e = let up : 10 ^ 1 ≤ 10 ^ m = pow-le-pow_right (lit< tt) h in omega (arith, up, e)

-- a coefficient beside a number that is greater by more digits than it has
pub sticky_far : (d m : ℕ) → 0 < d → d < 10 ^ 34 → 34 < m → 1 ≡ sticky_quotient d (10 ^ m)
sticky_far d m some h hm =
    let le : 34 ≤ m = omega arith in
    let up : 10 ^ 34 ≤ 10 ^ m = pow-le-pow_right (lit< tt) le in
    let less : d < 10 ^ m = omega (arith, up, h) in
    let none : d / 10 ^ m ≡ 0 = div-eq_of_lt less in
    let rest : d % 10 ^ m ≡ d = mod-eq_of_lt less in
    let t : (d == 0) ≡ false = grind (arith, nat_tests) in
    sym (ap (λ r. d / 10 ^ m + (if r == 0 then 0 else if d / 10 ^ m % 5 == 0 then 1 else 0)) rest ∙ ap (λ b. d / 10 ^ m + (if b then 0 else if d / 10 ^ m % 5 == 0 then 1 else 0)) t
    ∙ ap (λ q. q + (if q % 5 == 0 then 1 else 0)) none)

pub times_tens : (c z p : ℕ) → p ≡ 10 ^ z → c * p ≡ c * 10 ^ z
times_tens c z p e = ap (λ n. c * n) e

-- 34 zeros and the others
pub power_moved_far : (c z k p : ℕ) → p ≡ 10 ^ z → z + 34 ≤ k → c * p * 10 ^ 34 * 10 ^ (k - z - 34) ≡ c * 10 ^ k
power_moved_far c z k p e h =
    let inner : 34 + (k - z - 34) ≡ k - z = omega arith in
    ap (λ n. c * n * 10 ^ 34 * 10 ^ (k - z - 34)) e
    ∙ mul_assoc (c * 10 ^ z) (10 ^ 34) (10 ^ (k - z - 34))
    ∙ ap (λ n. c * 10 ^ z * n) (sym (pow-add 10 34 (k - z - 34)) ∙ ap (λ n. 10 ^ n) inner)
    ∙ power_moved c z k (omega arith)

pub full_room : (c z p : ℕ) → p ≡ 10 ^ z → c * 10 ^ z < 10 ^ 34 → c * p < 10 ^ 34
full_room c z p e h = subst (λ n. n < 10 ^ 34) (ap (λ n. c * n) (sym e)) h

pub power_moved_by : (c z k p : ℕ) → p ≡ 10 ^ z → z ≤ k → c * p * 10 ^ (k - z) ≡ c * 10 ^ k
power_moved_by c z k p e h = ap (λ n. c * n * 10 ^ (k - z)) e ∙ power_moved c z k h

-- the one with the lesser exponent is as it is
pub align_first : (s t : Bool) (c d e f : ℕ) → f ≤ e → signed_sum s (c * 10 ^ (e - f)) t d (f + 12352) ≡ signed_sum s (c * 10 ^ (e - f)) t (d * 10 ^ (f - e)) (min e f + 12352)
align_first s t c d e f h =
    let none : f - e ≡ 0 = omega arith in
    let one : d ≡ d * 10 ^ (f - e) = sym (ap (λ n. d * 10 ^ n) none ∙ omega arith) in
    let least : f ≡ min e f = omega arith in
    ap (λ n. signed_sum s (c * 10 ^ (e - f)) t n (f + 12352)) one ∙ ap (λ x. signed_sum s (c * 10 ^ (e - f)) t (d * 10 ^ (f - e)) (x + 12352)) least

turned_by : (s t : Bool) (m n x : ℕ) (o : Ordering) → MatchOrdering o (m < n) (m ≡ n) (n < m)
    → match_ordering o (decimal_of t (n - m) x) (decimal_of false 0 x) (decimal_of s (m - n) x) ≡ match_ordering (nat_cmp n m) (decimal_of s (m - n) x) (decimal_of false 0 x) (decimal_of t (n - m) x)
turned_by s t m n x Less h = ap (λ o. match_ordering o (decimal_of s (m - n) x) (decimal_of false 0 x) (decimal_of t (n - m) x)) (nat_cmp_is n m Greater h)
turned_by s t m n x Equal h = ap (λ o. match_ordering o (decimal_of s (m - n) x) (decimal_of false 0 x) (decimal_of t (n - m) x)) (nat_cmp_is n m Equal (sym h))
turned_by s t m n x Greater h = ap (λ o. match_ordering o (decimal_of s (m - n) x) (decimal_of false 0 x) (decimal_of t (n - m) x)) (nat_cmp_is n m Less h)

signed_sum_turned : (s t : Bool) (m n x : ℕ) → signed_sum s m t n x ≡ signed_sum t n s m x
signed_sum_turned true true m n x = ap (λ k. decimal_of true k x) (omega arith)
signed_sum_turned false false m n x = ap (λ k. decimal_of false k x) (omega arith)
signed_sum_turned true false m n x = turned_by true false m n x (nat_cmp m n) (ranks m n)
signed_sum_turned false true m n x = turned_by false true m n x (nat_cmp m n) (ranks m n)

add_of : (a b : Decimal) (s t : Bool) (c e d f : ℕ) → a ≡ Finite s c e → b ≡ Finite t d f → signed_sum s (c * 10 ^ (e - f)) t (d * 10 ^ (f - e)) (min e f + 12352) ≡ add a b
add_of a b s t c e d f ea eb = sym (ap (λ x. add x b) ea ∙ ap (λ y. add (Finite s c e) y) eb)

pub add_first : (a b : Decimal) (s t : Bool) (c e d f : ℕ) → a ≡ Finite s c e → b ≡ Finite t d f → f ≤ e → signed_sum s (c * 10 ^ (e - f)) t d (f + 12352) ≡ add a b
add_first a b s t c e d f ea eb h = align_first s t c d e f h ∙ add_of a b s t c e d f ea eb

pub add_second : (a b : Decimal) (s t : Bool) (c e d f : ℕ) → a ≡ Finite s c e → b ≡ Finite t d f → e ≤ f → signed_sum t (d * 10 ^ (f - e)) s c (e + 12352) ≡ add a b
add_second a b s t c e d f ea eb h =
    let least : min f e ≡ min e f = omega arith in
    align_first t s d c f e h ∙ signed_sum_turned t s (d * 10 ^ (f - e)) (c * 10 ^ (e - f)) (min f e + 12352)
    ∙ ap (λ x. signed_sum s (c * 10 ^ (e - f)) t (d * 10 ^ (f - e)) (x + 12352)) least ∙ add_of a b s t c e d f ea eb

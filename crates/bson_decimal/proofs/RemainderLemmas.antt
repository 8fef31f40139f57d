-- Remainders of numbers with zeros behind them.
use Rattle.std.proofs.Common.{◌≡◌, ℕ, ◌-◌, ◌*◌, ◌/◌, ◌%◌, ◌^◌, ◌<◌, ◌≤◌, ◌==◌, Bool, false, if◌then◌else◌, sym, ap, ◌∙◌, subst, arith, lit<, mod-eq_of_lt, div-lt_iff_lt-mul, div-add-mod', mul-le-mul_right}
use Rattle.std.specs.Prelude.{min}
use Rattle.std.proofs.Math.Nat.{pow-le-pow_right}
use Rattle.std.proofs.lemmas.Bool.Decides.{nat_tests}
use Rattle.bson_decimal.specs.Arithmetic.{remainder}
use Rattle.bson_decimal.specs.declared.decimal.Decimal.TheVariants.{NotANumber, Finite}

-- by a greater number
pub rest_far : (c d k : ℕ) → c < 10 ^ 34 → 0 < d → 34 < k → c ≡ c % (d * 10 ^ k)
rest_far c d k h hd hk =
    let up : 10 ^ 35 ≤ 10 ^ k = pow-le-pow_right (lit< tt) hk in
    let step : 1 * 10 ^ k ≤ d * 10 ^ k = mul-le-mul_right (10 ^ k) hd in
    let less : c < d * 10 ^ k = omega (arith, up, step, h) in
    sym (mod-eq_of_lt less)

pub rest_less : (c d k p : ℕ) → 0 < p → p ≡ 10 ^ k → c / p < d → c ≡ c % (d * 10 ^ k)
rest_less c d k p hp e h =
    let less : c < d * p = (div-lt_iff_lt-mul hp).0 h in
    sym (mod-eq_of_lt (subst (λ p. c < d * p) e less))

pub rest_room : (c d p : ℕ) → d ≤ c / p → d * p ≤ c
rest_room c d p h =
    let step : d * p ≤ c / p * p = mul-le-mul_right p h in
    let split = div-add-mod' c p in
    omega (arith, step, split)

pub rest_power : (c d k p : ℕ) → p ≡ 10 ^ k → c % (d * p) ≡ c % (d * 10 ^ k)
rest_power c d k p e = ap (λ p. c % (d * p)) e

pub rest_begin : (c d : ℕ) → c % d ≡ c * 10 ^ 0 % d
rest_begin c d = let one : c ≡ c * 1 = omega arith in ap (λ n. n % d) one

-- ---- the decimal

remainder_of : (s : Bool) (c e d f : ℕ) → 0 < d → Finite s (c * 10 ^ (e - f) % (d * 10 ^ (f - e))) (min e f) ≡ remainder (Finite s c e) (Finite s d f)
remainder_of s c e d f h =
    let t : (d == 0) ≡ false = grind (arith, nat_tests) in
    sym (ap (λ b. if b then NotANumber else Finite s (c * 10 ^ (e - f) % (d * 10 ^ (f - e))) (min e f)) t)

pub remainder_first : (s : Bool) (c e d f r : ℕ) → 0 < d → f ≤ e → r ≡ c * 10 ^ (e - f) % d → Finite s r f ≡ remainder (Finite s c e) (Finite s d f)
remainder_first s c e d f r hd h er =
    let none : f - e ≡ 0 = omega arith in
    let one : d ≡ d * 10 ^ (f - e) = sym (ap (λ n. d * 10 ^ n) none ∙ omega arith) in
    let least : f ≡ min e f = omega arith in
    ap (λ r. Finite s r f) (er ∙ ap (λ n. c * 10 ^ (e - f) % n) one) ∙ ap (λ x. Finite s (c * 10 ^ (e - f) % (d * 10 ^ (f - e))) x) least ∙ remainder_of s c e d f hd

pub remainder_second : (s : Bool) (c e d f r : ℕ) → 0 < d → e ≤ f → r ≡ c % (d * 10 ^ (f - e)) → Finite s r e ≡ remainder (Finite s c e) (Finite s d f)
remainder_second s c e d f r hd h er =
    let none : e - f ≡ 0 = omega arith in
    let one : c ≡ c * 10 ^ (e - f) = sym (ap (λ n. c * 10 ^ n) none ∙ omega arith) in
    let least : e ≡ min e f = omega arith in
    ap (λ r. Finite s r e) (er ∙ ap (λ n. n % (d * 10 ^ (f - e))) one) ∙ ap (λ x. Finite s (c * 10 ^ (e - f) % (d * 10 ^ (f - e))) x) least ∙ remainder_of s c e d f hd

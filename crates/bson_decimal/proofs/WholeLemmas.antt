-- Numbers that are rounded to a multiple of a power of ten.
use Rattle.std.proofs.Common.{◌≡◌, ℕ, ◌+◌, ◌-◌, ◌*◌, ◌/◌, ◌%◌, ◌^◌, ◌<◌, ◌≤◌, ◌==◌, Bool, true, false, if◌then◌else◌, refl, sym, ap, ◌∙◌, subst, arith, lit<, mod-eq_of_lt, div-lt_iff_lt-mul}
use Rattle.std.specs.Prelude.{nat_le}
use Rattle.std.specs.Cmp.{nat_cmp_is}
use Rattle.std.specs.Ordering.{nat_cmp}
use Rattle.std.specs.declared.cmp.Ordering.{Ordering}
use Rattle.std.specs.declared.cmp.Ordering.TheVariants.{Less}
use Rattle.std.proofs.Math.Nat.{pow-le-pow_right, div-eq_of_lt}
use Rattle.std.proofs.lemmas.Bool.Decides.{nat_tests}
use Rattle.bson_decimal.specs.Arithmetic.{nearest, next_unless_exact, whole, round, signed_sum, decimal_of, clamp, fold_down}
use Rattle.bson_decimal.specs.Wides.{round_parts}
use Rattle.bson_decimal.specs.declared.decimal.Decimal.{Decimal}
use Rattle.bson_decimal.specs.declared.decimal.Decimal.TheVariants.{Finite}
use Rattle.bson_decimal.specs.declared.wholes.Rounding.{Rounding}
use Rattle.bson_decimal.specs.declared.wholes.Rounding.TheVariants.{TiesToEven, TowardZero, TowardNegative, TowardPositive}
use Rattle.bson_decimal.proofs.RoundLemmas.{whole_cut_from, decimal_at, ends_at, nearest_split}

parts_is : (r : Rounding) (s : Bool) (n d : ℕ) → round_parts r s (n / d) (n % d) (nat_cmp (2 * (n % d)) d) ≡ whole r s n d
unfolding nearest
parts_is TiesToEven s n d = refl
parts_is TowardZero s n d = refl
parts_is TowardNegative s n d = refl
parts_is TowardPositive s n d = refl

pub parts_of : (r : Rounding) (s : Bool) (c k p : ℕ) (half : Ordering) → p ≡ 10 ^ k → half ≡ nat_cmp (2 * (c % p)) p → round_parts r s (c / p) (c % p) half ≡ whole r s c (10 ^ k)
parts_of r s c k p half e eh = ap (λ o. round_parts r s (c / p) (c % p) o) eh ∙ parts_is r s c p ∙ ap (λ p. whole r s c p) e

-- with more digits than there are
pub parts_far : (r : Rounding) (s : Bool) (c k : ℕ) → c < 10 ^ 34 → 34 < k → round_parts r s 0 c Less ≡ whole r s c (10 ^ k)
parts_far r s c k h hk =
    let p = 10 ^ k in
    ap (λ o. round_parts r s 0 c o) half ∙ ap (λ q. round_parts r s q c (nat_cmp (2 * c) p)) (sym none) ∙ ap (λ m. round_parts r s (c / p) m (nat_cmp (2 * m) p)) (sym rest) ∙ parts_is r s c p
  where
    up : 10 ^ 35 ≤ 10 ^ k
    up = pow-le-pow_right (lit< tt) hk

    less : c < 10 ^ k
    less = let u = up in omega (arith, u, h)

    none : c / 10 ^ k ≡ 0
    none = div-eq_of_lt less

    rest : c % 10 ^ k ≡ c
    rest = mod-eq_of_lt less

    half : Less ≡ nat_cmp (2 * c) (10 ^ k)
    half = nat_cmp_is (2 * c) (10 ^ k) Less (let u = up in omega (arith, u, h))

pub few_digits : (c k p : ℕ) → c < 10 ^ 34 → 0 < k → p ≡ 10 ^ k → c / p ≤ 10 ^ 33
few_digits c k p h hk e =
    let up : 10 ^ 1 ≤ 10 ^ k = pow-le-pow_right (lit< tt) hk in
    let some : 0 < p = omega (arith, up, e) in
    let less : c / p < 10 ^ 33 = (div-lt_iff_lt-mul some).1 (omega (arith, up, e, h)) in
    omega (arith, less)

-- ---- a whole number

nearest_one : (n : ℕ) → n ≡ nearest n 1
nearest_one n = let none : n ≡ n + 0 = omega arith in none ∙ nearest_split n n 1 0 (omega arith) (lit< tt)

exact_one : (n : ℕ) → n ≡ next_unless_exact (n / 1) (n % 1)
exact_one n =
    let rest : n % 1 ≡ 0 = omega arith in
    let t : (n % 1 == 0) ≡ true = grind (arith, nat_tests) in
    let same : n ≡ n / 1 + 0 = omega arith in
    same ∙ ap (λ b. n / 1 + (if b then 0 else 1)) (sym t)

whole_one : (r : Rounding) (s : Bool) (n : ℕ) → n ≡ whole r s n 1
whole_one TiesToEven s n = nearest_one n
whole_one TowardZero s n = omega arith
whole_one TowardNegative true n = exact_one n
whole_one TowardNegative false n = omega arith
whole_one TowardPositive true n = omega arith
whole_one TowardPositive false n = exact_one n

-- ---- the decimal

in_range : (s : Bool) (c e : ℕ) → e ≤ 12287 → Finite s c e ≡ clamp s c e
in_range s c e h = let t : nat_le e 12287 ≡ true = grind (arith, nat_tests) in ap (λ b. if b then Finite s c e else fold_down s c (e - 12287)) (sym t)

decimal_small : (s : Bool) (c e : ℕ) → c < 10 ^ 34 → e < 12288 → Finite s c e ≡ decimal_of s c (e + 12352)
decimal_small s c e h he =
    in_range s c e (omega arith)
    ∙ ap (λ n. clamp s n e) (nearest_one c)
    ∙ ap (λ x. clamp s (nearest c 1) x) exponent
    ∙ decimal_at s c (e + 12352) 0 (ap (λ k. whole_cut_from c c k) start ∙ ends_at c c 0 0 (omega arith) (λ i l. absurd (omega (arith, l))) (subst (λ n. n < 10 ^ 34) (nearest_one c) h))
  where
    exponent : e ≡ e + 12352 + 0 - 12352
    exponent = omega arith

    start : 12352 - (e + 12352) ≡ 0
    start = omega arith

-- ---- rounding

same_sign : (s : Bool) (n x : ℕ) → signed_sum s n s 0 x ≡ decimal_of s n x
same_sign true n x = ap (λ m. decimal_of true m x) (omega arith)
same_sign false n x = ap (λ m. decimal_of false m x) (omega arith)

round_of : (r : Rounding) (a : Decimal) (s : Bool) (c e u : ℕ) → a ≡ Finite s c e → decimal_of s (whole r s (c * 10 ^ (e - u)) (10 ^ (u - e))) (u + 12352) ≡ round r u a
round_of r a s c e u ea = sym (ap (λ x. round r u x) ea)

pub round_exact : (r : Rounding) (a : Decimal) (s : Bool) (c e u : ℕ) → a ≡ Finite s c e → u ≤ e → signed_sum s (c * 10 ^ (e - u)) s 0 (u + 12352) ≡ round r u a
round_exact r a s c e u ea h =
    let none : 0 ≡ u - e = omega arith in
    same_sign s (c * 10 ^ (e - u)) (u + 12352)
    ∙ ap (λ n. decimal_of s n (u + 12352)) (whole_one r s (c * 10 ^ (e - u)))
    ∙ ap (λ k. decimal_of s (whole r s (c * 10 ^ (e - u)) (10 ^ k)) (u + 12352)) none
    ∙ round_of r a s c e u ea

pub round_cut : (r : Rounding) (a : Decimal) (s : Bool) (c e u m : ℕ) → a ≡ Finite s c e → e ≤ u → u < 12288 → m ≡ whole r s c (10 ^ (u - e)) → m < 10 ^ 34 → Finite s m u ≡ round r u a
round_cut r a s c e u m ea h hu em small =
    let none : 0 ≡ e - u = omega arith in
    let one : c ≡ c * 10 ^ 0 = omega arith in
    decimal_small s m u small hu
    ∙ ap (λ n. decimal_of s n (u + 12352)) em
    ∙ ap (λ n. decimal_of s (whole r s n (10 ^ (u - e))) (u + 12352)) (one ∙ ap (λ k. c * 10 ^ k) none)
    ∙ round_of r a s c e u ea

-- Whole parts of sizes and of places.
use Rattle.std.proofs.Common.{◌≡◌, ℕ, pos, negsuc, zero, suc, ◌+◌, ◌-◌, ◌*◌, ◌/◌, ◌^◌, ◌<◌, ◌≤◌, Bool, true, false, if◌then◌else◌, Some, None, refl, sym, ap, ◌∙◌, arith, lit<, lit≤, mul_comm, mul_assoc, le_trans, lt_of_lt_of_le, lt_of_le_of_lt, le-mul_of_pos_right, ◌==◌, ℤ, Option, subst, mul-pos, mul-lt-mul_of_pos_right}
use Rattle.std.specs.Int.{w64}
use Rattle.std.specs.Prelude.{FitsSigned, option_and_then, nat_le, nat_lt, neg_ℤ}
use Rattle.std.proofs.Math.Nat.{pow-le-pow_right, div-eq_of_lt, mul-div_cancel, mul-div-mul_right}
use Rattle.std.proofs.lemmas.Bool.{eqb-true}
use Rattle.std.proofs.lemmas.Bool.Decides.{nat_tests}
use Rattle.std.proofs.lemmas.Nat.{pow-add, le-div}
use Rattle.bson_order.specs.Line.{infinite, least_double, on_line, one_whole, whole_place}
use Rattle.bson_order.specs.Wholes.{in_64_bits, signed, small, toward_zero, whole_part, whole_at}
use Rattle.bson_order.proofs.SizeLemmas.{least_positive, more_left, power_positive, whole_doubles}

-- ---- sizes

pub fits_small : (n : ℕ) → n < 2 ^ 64 → Some n ≡ small n
fits_small n h = let t : nat_lt n (2 ^ 64) ≡ true = grind (arith, nat_tests) in sym (ap (λ b. if b then Some n else None) t)

pub not_small : (n : ℕ) → 2 ^ 64 ≤ n → None ≡ small n
not_small n h = let t : nat_lt n (2 ^ 64) ≡ false = grind (arith, nat_tests) in sym (ap (λ b. if b then Some n else None) t)

-- divided by so great a power that nothing is left
pub cut_away : (a b k m : ℕ) → 0 < b → a < b ^ m → m ≤ k → Some 0 ≡ small (a / b ^ k)
cut_away a b k m hb h le =
    let more : b ^ m ≤ b ^ k = pow-le-pow_right hb le in
    let less : a < b ^ k = lt_of_lt_of_le h more in
    let none : a / b ^ k ≡ 0 = div-eq_of_lt less in
    ap small (sym none)

-- times so great a power that there is no room
pub grown_away : (a b k m : ℕ) → 0 < a → 0 < b → 2 ^ 64 ≤ b ^ (m + 1) → m < k → None ≡ small (a * b ^ k)
grown_away a b k m ha hb h lt =
    let le : m + 1 ≤ k = omega arith in
    let more : b ^ (m + 1) ≤ b ^ k = pow-le-pow_right hb le in
    not_small (a * b ^ k) (le_trans h (le_trans more (more_left (b ^ k) a ha)))

pub grown_large : (a b k : ℕ) → 2 ^ 64 ≤ a → 0 < b → None ≡ small (a * b ^ k)
grown_large a b k ha hb = not_small (a * b ^ k) (le_trans ha (le-mul_of_pos_right a (power_positive b k hb)))

pub power_room : (b k m w : ℕ) → 0 < b → k ≤ m → b ^ m < w → b ^ k < w
power_room b k m w hb le h = lt_of_le_of_lt (pow-le-pow_right hb le) h

-- what is left of a power of ten
pub tens_cut : (c e j : ℕ) → e + j ≡ 6176 → c / 10 ^ j ≡ c * 10 ^ e / one_whole
unfolding one_whole
tens_cut c e j h =
    let whole : 10 ^ 6176 ≡ 10 ^ j * 10 ^ e = ap (λ n. 10 ^ n) (sym h ∙ omega arith) ∙ pow-add 10 j e in
    sym (mul-div-mul_right c (10 ^ j) (power_positive 10 e (lit< tt))) ∙ ap (λ n. c * 10 ^ e / n) (sym whole)

pub tens_grown : (c e i : ℕ) → i + 6176 ≡ e → c * 10 ^ i ≡ c * 10 ^ e / one_whole
unfolding one_whole
tens_grown c e i h =
    let whole : c * 10 ^ e ≡ c * 10 ^ i * 10 ^ 6176 = ap (λ n. c * 10 ^ n) (sym h) ∙ ap (λ n. c * n) (pow-add 10 i 6176) ∙ sym (mul_assoc c (10 ^ i) (10 ^ 6176)) in
    sym (ap (λ n. n / 10 ^ 6176) whole ∙ mul-div_cancel (c * 10 ^ i) (power_positive 10 6176 (lit< tt)))

-- what is left of a power of two, counted in the least double
doubles_cut : (n : ℕ) → n / 2 ^ 1074 ≡ n * least_double / one_whole
unfolding one_whole
doubles_cut n =
    let whole : 10 ^ 6176 ≡ 2 ^ 1074 * least_double = sym whole_doubles ∙ mul_comm least_double (2 ^ 1074) in
    sym (mul-div-mul_right n (2 ^ 1074) least_positive) ∙ ap (λ m. n * least_double / m) (sym whole)

pub twos_cut : (s x j : ℕ) → x + j ≡ 1074 → s / 2 ^ j ≡ s * 2 ^ x * least_double / one_whole
twos_cut s x j h =
    let whole : 2 ^ 1074 ≡ 2 ^ j * 2 ^ x = ap (λ n. 2 ^ n) (sym h ∙ omega arith) ∙ pow-add 2 j x in
    sym (mul-div-mul_right s (2 ^ j) (power_positive 2 x (lit< tt))) ∙ ap (λ n. s * 2 ^ x / n) (sym whole) ∙ doubles_cut (s * 2 ^ x)

pub twos_grown : (s x i : ℕ) → i + 1074 ≡ x → s * 2 ^ i ≡ s * 2 ^ x * least_double / one_whole
twos_grown s x i h =
    let whole : s * 2 ^ x ≡ s * 2 ^ i * 2 ^ 1074 = ap (λ n. s * 2 ^ n) (sym h) ∙ ap (λ n. s * n) (pow-add 2 i 1074) ∙ sym (mul_assoc s (2 ^ i) (2 ^ 1074)) in
    sym (mul-div_cancel (s * 2 ^ i) (power_positive 2 1074 (lit< tt))) ∙ ap (λ n. n / 2 ^ 1074) (sym whole) ∙ doubles_cut (s * 2 ^ x)

infinite_room : 2 ^ 64 * one_whole ≤ infinite
unfolding infinite one_whole
infinite_room = lit≤ tt

pub infinite_whole : None ≡ small (infinite / one_whole)
unfolding infinite one_whole
infinite_whole =
    let some : 0 < 10 ^ 6176 = power_positive 10 6176 (lit< tt) in
    let room : 2 ^ 64 * 10 ^ 6176 ≤ 10 ^ 12400 = lit≤ tt in
    not_small (10 ^ 12400 / 10 ^ 6176) (le-div (2 ^ 64) (10 ^ 12400) (10 ^ 6176) some room)

-- ---- places

whole_positive : 0 < one_whole
unfolding one_whole
whole_positive = power_positive 10 6176 (lit< tt)

line_part : (s : Bool) (m : ℕ) → m ≤ infinite → toward_zero (on_line s m) ≡ signed s (m / one_whole)
line_part false m h =
    let t : nat_le (suc infinite) (suc infinite + m) ≡ true = grind (arith, nat_tests) in
    let less : suc infinite + m - suc infinite ≡ m = omega arith in
    ap (λ b. if b then pos ((suc infinite + m - suc infinite) / one_whole) else neg_ℤ (pos ((suc infinite - (suc infinite + m)) / one_whole))) t
    ∙ ap (λ n. pos (n / one_whole)) less
line_part true zero h =
    let same : suc infinite - 0 ≡ suc infinite = omega arith in
    let t : nat_le (suc infinite) (suc infinite) ≡ true = grind (arith, nat_tests) in
    let none : suc infinite - suc infinite ≡ 0 = omega arith in
    let left : 0 / one_whole ≡ 0 = div-eq_of_lt whole_positive in
    ap toward_zero same
    ∙ ap (λ b. if b then pos ((suc infinite - suc infinite) / one_whole) else neg_ℤ (pos ((suc infinite - suc infinite) / one_whole))) t
    ∙ ap (λ n. pos (n / one_whole)) none ∙ ap pos left ∙ sym (ap (λ n. neg_ℤ (pos n)) left)
line_part true (suc m) h =
    let t : nat_le (suc infinite) (suc infinite - suc m) ≡ false = grind (arith, nat_tests) in
    let less : suc infinite - (suc infinite - suc m) ≡ suc m = omega arith in
    ap (λ b. if b then pos ((suc infinite - suc m - suc infinite) / one_whole) else neg_ℤ (pos ((suc infinite - (suc infinite - suc m)) / one_whole))) t
    ∙ ap (λ n. neg_ℤ (pos (n / one_whole))) less

-- the whole part of a size with its sign
pub sized_part : (s : Bool) (m w : ℕ) → m ≤ infinite → Some w ≡ small (m / one_whole) → in_64_bits (signed s w) ≡ whole_part (on_line s m)
sized_part s m w h e = ap (λ n. in_64_bits (signed s n)) (small_is (m / one_whole) w e) ∙ ap in_64_bits (sym (line_part s m h))
  where
    by : (n w : ℕ) (b : Bool) → Some w ≡ (if b then Some n else None) → w ≡ n
    by n w true e = cc
    by n w false e = absurd cc

    small_is : (n w : ℕ) → Some w ≡ small n → w ≡ n
    small_is n w e = by n w (nat_lt n (2 ^ 64)) e

-- beyond 64 bits, whatever the sign
pub large : (s : Bool) (n : ℕ) → 2 ^ 64 ≤ n → None ≡ in_64_bits (signed s n)
large false n h = let t : nat_lt n (2 ^ 63) ≡ false = grind (arith, nat_tests) in sym (ap (λ b. if b then Some (pos n) else None) t)
large true zero h = absurd (omega arith)
large true (suc n) h = let t : nat_lt n (2 ^ 63) ≡ false = grind (arith, nat_tests) in sym (ap (λ b. if b then Some (negsuc n) else None) t)

pub no_part : (s : Bool) (m : ℕ) → m ≤ infinite → None ≡ small (m / one_whole) → None ≡ whole_part (on_line s m)
no_part s m h e = large s (m / one_whole) (by (nat_lt (m / one_whole) (2 ^ 64)) (m / one_whole) refl e) ∙ ap in_64_bits (sym (line_part s m h))
  where
    by : (b : Bool) (n : ℕ) → nat_lt n (2 ^ 64) ≡ b → None ≡ (if b then Some n else None) → 2 ^ 64 ≤ n
    by true n t e = absurd cc
    by false n t e = grind (arith, nat_tests)

pub nowhere : None ≡ whole_part 0
nowhere =
    let t : nat_le (suc infinite) 0 ≡ false = grind (arith, nat_tests) in
    let same : suc infinite - 0 ≡ suc infinite = omega arith in
    let le : infinite ≤ suc infinite = omega arith in
    let room : 2 ^ 64 ≤ suc infinite / one_whole = le-div (2 ^ 64) (suc infinite) one_whole whole_positive (le_trans infinite_room le) in
    large true (suc infinite / one_whole) room ∙ sym (
    ap (λ b. in_64_bits (if b then pos ((0 - suc infinite) / one_whole) else neg_ℤ (pos ((suc infinite - 0) / one_whole)))) t
    ∙ ap (λ n. in_64_bits (neg_ℤ (pos (n / one_whole)))) same)

-- ---- the whole number at its place

size_room : (n : ℕ) → n < 2 ^ 64 → n * one_whole ≤ infinite
size_room n h =
    let less : n * one_whole < 2 ^ 64 * one_whole = mul-lt-mul_of_pos_right h whole_positive in
    let room = infinite_room in
    omega (arith, less, room)

toward_whole : (z : ℤ) → FitsSigned w64 z → toward_zero (whole_place z) ≡ z
toward_whole (pos n) h =
    let t : nat_le (suc infinite) (suc infinite + n * one_whole) ≡ true = grind (arith, nat_tests) in
    let less : suc infinite + n * one_whole - suc infinite ≡ n * one_whole = omega arith in
    ap (λ b. if b then pos ((suc infinite + n * one_whole - suc infinite) / one_whole) else neg_ℤ (pos ((suc infinite - (suc infinite + n * one_whole)) / one_whole))) t
    ∙ ap (λ x. pos (x / one_whole)) less ∙ ap pos (mul-div_cancel n whole_positive)
toward_whole (negsuc n) h =
    let small : suc n < 2 ^ 64 = omega (arith, h.sfits) in
    let room = size_room (suc n) small in
    let some : 0 < suc n * one_whole = mul-pos (omega arith) whole_positive in
    let t : nat_le (suc infinite) (suc infinite - suc n * one_whole) ≡ false = below_middle infinite (suc n * one_whole) some room in
    let less : suc infinite - (suc infinite - suc n * one_whole) ≡ suc n * one_whole = omega (arith, room) in
    ap (λ b. if b then pos ((suc infinite - suc n * one_whole - suc infinite) / one_whole) else neg_ℤ (pos ((suc infinite - (suc infinite - suc n * one_whole)) / one_whole))) t
    ∙ ap (λ x. neg_ℤ (pos (x / one_whole))) less ∙ ap (λ x. neg_ℤ (pos x)) (mul-div_cancel (suc n) whole_positive)
  where
    below_middle : (i m : ℕ) → 0 < m → m ≤ i → nat_le (suc i) (suc i - m) ≡ false
    below_middle i m h k = grind (arith, nat_tests)

held_in_64 : (z : ℤ) → FitsSigned w64 z → in_64_bits z ≡ Some z
held_in_64 (pos n) h = let l : n < 2 ^ 63 = h.sfits in let t : nat_lt n (2 ^ 63) ≡ true = grind (arith, nat_tests) in ap (λ b. if b then Some (pos n) else None) t
held_in_64 (negsuc n) h = let l : n < 2 ^ 63 = h.sfits in let t : nat_lt n (2 ^ 63) ≡ true = grind (arith, nat_tests) in ap (λ b. if b then Some (negsuc n) else None) t

level_test : (n : ℕ) → (n == n) ≡ true
level_test n = grind (arith, nat_tests)

pub whole_at_place : (z : ℤ) → FitsSigned w64 z → whole_at (whole_place z) ≡ Some z
whole_at_place z h =
    ap (λ o. option_and_then (λ y. if whole_place y == whole_place z then Some y else None) o) (ap in_64_bits (toward_whole z h) ∙ held_in_64 z h)
    ∙ ap (λ b. if b then Some z else None) (level_test (whole_place z))

-- a whole number that is at a place is there
pub whole_at_is : (p : ℕ) (z : ℤ) → whole_at p ≡ Some z → whole_place z ≡ p
whole_at_is p z e = by (whole_part p) e
  where
    inner : (y : ℤ) (b : Bool) → (whole_place y == p) ≡ b → (if b then Some y else None) ≡ Some z → whole_place z ≡ p
    inner y true t q = let same : y ≡ z = cc in subst (λ (x : ℤ). whole_place x ≡ p) same (eqb-true (whole_place y) p t)
    inner y false t q = absurd cc

    by : (o : Option ℤ) → option_and_then (λ y. if whole_place y == p then Some y else None) o ≡ Some z → whole_place z ≡ p
    by None q = absurd cc
    by (Some y) q = inner y (whole_place y == p) refl q

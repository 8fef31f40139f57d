-- Doubles that are whole numbers, and the one pattern of a double.
use Rattle.std.proofs.Common.{◌≡◌, ◌⊎◌, inl, inr, ℕ, ℤ, zero, suc, ◌+◌, ◌-◌, ◌*◌, ◌/◌, ◌%◌, ◌^◌, ◌<◌, ◌≤◌, Bool, true, false, ◌==◌, if◌then◌else◌, refl, sym, ap, ◌∙◌, subst, arith, lit<, lit≤, mul-pos, mul_comm, mul_assoc, mul-lt-mul_of_pos_right, mul-le-mul_right, le_trans, lt_of_lt_of_le}
use Rattle.std.specs.Prelude.{not, ◌&&◌, nat_le, unsigned_abs}
use Rattle.std.specs.Int.{is_negative as sign_of}
use Rattle.std.specs.Cmp.{ranks}
use Rattle.std.specs.Ordering.{MatchOrdering, nat_cmp}
use Rattle.std.specs.declared.cmp.Ordering.{Ordering}
use Rattle.std.specs.declared.cmp.Ordering.TheVariants.{Less, Equal, Greater}
use Rattle.std.proofs.Math.Nat.{pow-le-pow_right, mul-div_cancel, mul-mod_left}
use Rattle.std.proofs.lemmas.Bool.{eqb-true, and_parts}
use Rattle.std.proofs.lemmas.Bool.Decides.{nat_tests}
use Rattle.std.proofs.lemmas.Nat.{pow-add, mul-le, div-mul-add, mod-mul-add, mod_below, le-div, div_below, div-add-mod'}
use Rattle.bson_base.specs.Doubles.{exponent, fraction, is_infinite, is_nan, is_negative, is_zero}
use Rattle.bson_order.specs.Line.{double_place, double_size, infinite, least_double, on_line, one_whole, significand, whole_place}
use Rattle.bson_order.specs.Wholes.{HasNoDouble, IsDoubleOf}
use Rattle.bson_order.proofs.SizeLemmas.{infinite_some, least_positive, product_zero, on_line_some, power_positive, twos_below, whole_doubles, whole_line}

-- equal products with one positive factor
pub same_factor : (a b k : ℕ) → 0 < k → a * k ≡ b * k → a ≡ b
same_factor a b k h e = sym (mul-div_cancel a h) ∙ ap (λ n. n / k) e ∙ mul-div_cancel b h

apart : (a b : ℕ) → a < b → b ≡ a → ⊥
apart a b l e = omega (arith, l, e)

-- ---- the pattern of a normal number

pub bits_exponent : (e f : ℕ) → f < 2 ^ 52 → e < 2 ^ 11 → exponent (e * 2 ^ 52 + f) ≡ e
bits_exponent e f hf he =
    let high : (e * 2 ^ 52 + f) / 2 ^ 52 ≡ e = div-mul-add e (2 ^ 52) f hf in
    ap (λ n. n % 2 ^ 11) high ∙ omega (arith, he)

pub bits_fraction : (e f : ℕ) → f < 2 ^ 52 → fraction (e * 2 ^ 52 + f) ≡ f
bits_fraction e f hf = mod-mul-add e (2 ^ 52) f hf

-- the size of a number whose exponent is neither the least nor the greatest
pub normal_size : (n : ℕ) → 0 < exponent n → exponent n < 2047 → (is_nan n ≡ false) × (double_size n ≡ (fraction n + 2 ^ 52) * 2 ^ (exponent n - 1) * least_double)
normal_size n h l =
    let low : (exponent n == 2047) ≡ false = grind (arith, nat_tests) in
    let some : (exponent n == 0) ≡ false = grind (arith, nat_tests) in (
      ap (λ b. b && not (fraction n == 0)) low,
      ap (λ b. if b && (fraction n == 0) then infinite else significand n * 2 ^ (exponent n - 1) * least_double) low
          ∙ ap (λ b. (if b then fraction n else fraction n + 2 ^ 52) * 2 ^ (exponent n - 1) * least_double) some,
    )

-- a significand whose first bit is worth 2^top
pub whole_size : (top s size : ℕ) → top < 64 → 2 ^ 52 ≤ s → s < 2 ^ 53 → s * 2 ^ (1022 + top) ≡ size * 2 ^ 1074
    → IsDoubleOf size ((1023 + top) * 2 ^ 52 + (s - 2 ^ 52))
unfolding one_whole
whole_size top s size ht lo hi e =
    let f = s - 2 ^ 52 in
    let n = (1023 + top) * 2 ^ 52 + f in
    let hf : s - 2 ^ 52 < 2 ^ 52 = omega arith in
    let he : 1023 + top < 2 ^ 11 = omega arith in
    let ex : exponent ((1023 + top) * 2 ^ 52 + (s - 2 ^ 52)) ≡ 1023 + top = bits_exponent (1023 + top) (s - 2 ^ 52) hf he in
    let fr : fraction ((1023 + top) * 2 ^ 52 + (s - 2 ^ 52)) ≡ s - 2 ^ 52 = bits_fraction (1023 + top) (s - 2 ^ 52) hf in
    let parts = normal_size ((1023 + top) * 2 ^ 52 + (s - 2 ^ 52)) (omega (arith, ex)) (omega (arith, ex, ht)) in
    let whole : s - 2 ^ 52 + 2 ^ 52 ≡ s = omega arith in
    let power : 1023 + top - 1 ≡ 1022 + top = omega arith in
    let first : (fraction ((1023 + top) * 2 ^ 52 + (s - 2 ^ 52)) + 2 ^ 52) * 2 ^ (exponent ((1023 + top) * 2 ^ 52 + (s - 2 ^ 52)) - 1) * least_double ≡ s * 2 ^ (1022 + top) * least_double =
    ap (λ (x : ℕ). (x + 2 ^ 52) * 2 ^ (exponent ((1023 + top) * 2 ^ 52 + (s - 2 ^ 52)) - 1) * least_double) fr
    ∙ ap (λ (x : ℕ). x * 2 ^ (exponent ((1023 + top) * 2 ^ 52 + (s - 2 ^ 52)) - 1) * least_double) whole
    ∙ ap (λ (x : ℕ). s * 2 ^ (x - 1) * least_double) ex
    ∙ ap (λ (x : ℕ). s * 2 ^ x * least_double) power in
    let last : size * 2 ^ 1074 * least_double ≡ size * 10 ^ 6176 = mul_assoc size (2 ^ 1074) least_double ∙ ap (λ (x : ℕ). size * x) (mul_comm (2 ^ 1074) least_double ∙ whole_doubles) in
    (omega (arith, hf, ht), parts.0, parts.1 ∙ first ∙ ap (λ (x : ℕ). x * least_double) e ∙ last)

-- ---- the significand of a size

pub lifted_low : (size top : ℕ) → top ≤ 52 → 2 ^ top ≤ size → 2 ^ 52 ≤ size * 2 ^ (52 - top)
lifted_low size top h le =
    let whole : top + (52 - top) ≡ 52 = omega arith in
    subst (λ n. n ≤ size * 2 ^ (52 - top)) (sym (pow-add 2 top (52 - top)) ∙ ap (λ n. 2 ^ n) whole) (mul-le-mul_right (2 ^ (52 - top)) le)

pub lifted_high : (size top : ℕ) → top ≤ 52 → size < 2 ^ (top + 1) → size * 2 ^ (52 - top) < 2 ^ 53
lifted_high size top h lt =
    let whole : top + 1 + (52 - top) ≡ 53 = omega arith in
    subst (λ n. size * 2 ^ (52 - top) < n) (sym (pow-add 2 (top + 1) (52 - top)) ∙ ap (λ n. 2 ^ n) whole) (mul-lt-mul_of_pos_right lt (power_positive 2 (52 - top) (lit< tt)))

pub lifted_size : (size top : ℕ) → top ≤ 52 → size * 2 ^ (52 - top) * 2 ^ (1022 + top) ≡ size * 2 ^ 1074
lifted_size size top h =
    let whole : 52 - top + (1022 + top) ≡ 1074 = omega arith in
    mul_assoc size (2 ^ (52 - top)) (2 ^ (1022 + top)) ∙ ap (λ n. size * n) (sym (pow-add 2 (52 - top) (1022 + top)) ∙ ap (λ n. 2 ^ n) whole)

module _ (size top : ℕ) (h : 52 < top) where
  unit_power : (n : ℕ) → 2 ^ (n + (top - 52)) ≡ 2 ^ n * 2 ^ (top - 52)
  unit_power n = pow-add 2 n (top - 52)

  pub shrunk_low : 2 ^ top ≤ size → 2 ^ 52 ≤ size / 2 ^ (top - 52)
  shrunk_low le =
      let whole : 52 + (top - 52) ≡ top = omega arith in
      le-div (2 ^ 52) size (2 ^ (top - 52)) (power_positive 2 (top - 52) (lit< tt)) (subst (λ n. n ≤ size) (ap (λ n. 2 ^ n) (sym whole) ∙ unit_power 52) le)

  pub shrunk_high : size < 2 ^ (top + 1) → size / 2 ^ (top - 52) < 2 ^ 53
  shrunk_high lt =
      let whole : 53 + (top - 52) ≡ top + 1 = omega arith in
      div_below size (2 ^ (top - 52)) (2 ^ 53) (power_positive 2 (top - 52) (lit< tt)) (subst (λ n. size < n) (ap (λ n. 2 ^ n) (sym whole) ∙ unit_power 53) lt)

  pub shrunk_size : size % 2 ^ (top - 52) ≡ 0 → size / 2 ^ (top - 52) * 2 ^ (1022 + top) ≡ size * 2 ^ 1074
  shrunk_size none =
      let whole : top - 52 + 1074 ≡ 1022 + top = omega arith in
      let back : size / 2 ^ (top - 52) * 2 ^ (top - 52) ≡ size = omega (arith, none, div-add-mod' size (2 ^ (top - 52))) in
      ap (λ n. size / 2 ^ (top - 52) * n) (ap (λ n. 2 ^ n) (sym whole) ∙ pow-add 2 (top - 52) 1074)
      ∙ sym (mul_assoc (size / 2 ^ (top - 52)) (2 ^ (top - 52)) (2 ^ 1074)) ∙ ap (λ n. n * 2 ^ 1074) back

  -- so many bits that no significand has them
  pub too_long : (s x : ℕ) → 2 ^ top ≤ size → (size % 2 ^ (top - 52) ≡ 0 → ⊥) → s < 2 ^ 53 → s * 2 ^ x ≡ size * 2 ^ 1074 → ⊥
  too_long s x le some hs e = by (nat_le (1022 + top) x) refl
    where
      by : (b : Bool) → nat_le (1022 + top) x ≡ b → ⊥
      by true t =
          let le2 : 1022 + top ≤ x = grind (arith, nat_tests) in
          let i = x - (1022 + top) in
          let whole : x - (1022 + top) + (top - 52) + 1074 ≡ x = omega arith in
          let split : s * 2 ^ x ≡ s * 2 ^ (x - (1022 + top)) * 2 ^ (top - 52) * 2 ^ 1074 =
          ap (λ n. s * 2 ^ n) (sym whole) ∙ ap (λ n. s * n) (pow-add 2 (x - (1022 + top) + (top - 52)) 1074 ∙ ap (λ n. n * 2 ^ 1074) (pow-add 2 (x - (1022 + top)) (top - 52)))
          ∙ sym (mul_assoc s (2 ^ (x - (1022 + top)) * 2 ^ (top - 52)) (2 ^ 1074)) ∙ ap (λ n. n * 2 ^ 1074) (sym (mul_assoc s (2 ^ (x - (1022 + top))) (2 ^ (top - 52)))) in
          let same : s * 2 ^ (x - (1022 + top)) * 2 ^ (top - 52) ≡ size = same_factor (s * 2 ^ (x - (1022 + top)) * 2 ^ (top - 52)) size (2 ^ 1074) (power_positive 2 1074 (lit< tt)) (sym split ∙ e) in
          some (ap (λ n. n % 2 ^ (top - 52)) (sym same) ∙ mul-mod_left (s * 2 ^ (x - (1022 + top))) (2 ^ (top - 52)))
      by false f =
          let low : x + 1 ≤ 1022 + top = grind (arith, nat_tests) in
          let more : x ≤ 1021 + top = omega arith in
          let less : s * 2 ^ x < 2 ^ 53 * 2 ^ x = mul-lt-mul_of_pos_right hs (power_positive 2 x (lit< tt)) in
          let up : 2 ^ 53 * 2 ^ x ≤ 2 ^ 53 * 2 ^ (1021 + top) = mul-le (2 ^ 53) (2 ^ x) (2 ^ 53) (2 ^ (1021 + top)) (omega arith) (pow-le-pow_right (lit< tt) more) in
          let whole : 53 + (1021 + top) ≡ top + 1074 = omega arith in
          let same : 2 ^ 53 * 2 ^ (1021 + top) ≡ 2 ^ top * 2 ^ 1074 = sym (pow-add 2 53 (1021 + top)) ∙ ap (λ n. 2 ^ n) whole ∙ pow-add 2 top 1074 in
          let last : 2 ^ top * 2 ^ 1074 ≤ size * 2 ^ 1074 = mul-le-mul_right (2 ^ 1074) le in
          let chain : s * 2 ^ x < size * 2 ^ 1074 = lt_of_lt_of_le less (le_trans up (subst (λ n. n ≤ size * 2 ^ 1074) (sym same) last)) in
          let apart : s * 2 ^ x ≡ size * 2 ^ 1074 → ⊥ = λ q. omega (arith, chain, q) in
          apart e

-- ---- what a size that is a whole number says of the pattern

infinite_no_whole : (size : ℕ) → size < 2 ^ 64 → infinite ≡ size * one_whole → ⊥
unfolding infinite one_whole
infinite_no_whole size h e =
    let less : size * 10 ^ 6176 < 2 ^ 64 * 10 ^ 6176 = mul-lt-mul_of_pos_right h (power_positive 10 6176 (lit< tt)) in
    let room : 2 ^ 64 * 10 ^ 6176 ≤ 10 ^ 12400 = lit≤ tt in
    apart (size * 10 ^ 6176) (10 ^ 12400) (lt_of_lt_of_le less room) e

significand_low : (n : ℕ) → significand n < 2 ^ 53
significand_low n = by (exponent n == 0)
  where
    by : (b : Bool) → (if b then fraction n else fraction n + 2 ^ 52) < 2 ^ 53
    by true = let l : fraction n < 2 ^ 52 = mod_below n (2 ^ 52) (lit< tt) in omega arith
    by false = let l : fraction n < 2 ^ 52 = mod_below n (2 ^ 52) (lit< tt) in omega arith

pub no_double : (size top : ℕ) → size < 2 ^ 64 → 52 < top → 2 ^ top ≤ size → (size % 2 ^ (top - 52) ≡ 0 → ⊥) → HasNoDouble size
unfolding one_whole
no_double size top room h le some n e = by (is_infinite n) e
  where
    by : (b : Bool) → (if b then infinite else significand n * 2 ^ (exponent n - 1) * least_double) ≡ size * one_whole → ⊥
    by true q = infinite_no_whole size room q
    by false q =
        let last : size * 2 ^ 1074 * least_double ≡ size * 10 ^ 6176 = mul_assoc size (2 ^ 1074) least_double ∙ ap (λ (x : ℕ). size * x) (mul_comm (2 ^ 1074) least_double ∙ whole_doubles) in
        too_long size top h (significand n) (exponent n - 1) le some (significand_low n)
        (same_factor (significand n * 2 ^ (exponent n - 1)) (size * 2 ^ 1074) least_double least_positive (q ∙ sym last))

-- ---- places

pub sizes_level : (s t : Bool) (m k : ℕ) → m ≤ infinite → k ≤ infinite → on_line s m ≡ on_line t k → m ≡ k
sizes_level true true m k hm hk e = omega arith
sizes_level true false m k hm hk e = omega arith
sizes_level false true m k hm hk e = omega arith
sizes_level false false m k hm hk e = omega arith

both_false : (a b : Bool) → (a && not b) ≡ false → (a && b) ≡ false → a ≡ false
both_false false b h k = refl
both_false true true h k = absurd cc
both_false true false h k = absurd cc

pub double_low : (n : ℕ) → is_nan n ≡ false → double_size n ≤ infinite
double_low n h = by (is_infinite n) refl
  where
    by : (b : Bool) → is_infinite n ≡ b → (if b then infinite else significand n * 2 ^ (exponent n - 1) * least_double) ≤ infinite
    by true t = omega arith
    by false t =
        let test : (exponent n == 2047) ≡ false = both_false (exponent n == 2047) (fraction n == 0) h t in
        let some : exponent n ≡ 2047 → ⊥ = λ e. let yes : (exponent n == 2047) ≡ true = ap (λ x. x == 2047) e in cc in
        let high : exponent n < 2 ^ 11 = mod_below (n / 2 ^ 52) (2 ^ 11) (lit< tt) in
        let low : exponent n - 1 < 2046 = omega (arith, some, high) in
        let less = twos_below (significand n) (exponent n - 1) (significand_low n) low in
        omega (arith, less)

le_of_lt : (a b : ℕ) → a < b → a ≤ b
le_of_lt a b l = omega arith

whole_low : (size : ℕ) → size < 2 ^ 64 → size * 10 ^ 6176 ≤ infinite
unfolding infinite
whole_low size h =
    let less : size * 10 ^ 6176 < 2 ^ 64 * 10 ^ 6176 = mul-lt-mul_of_pos_right h (power_positive 10 6176 (lit< tt)) in
    let room : 2 ^ 64 * 10 ^ 6176 ≤ 10 ^ 12400 = lit≤ tt in
    le_of_lt (size * 10 ^ 6176) (10 ^ 12400) (lt_of_lt_of_le less room)

-- no double is at the place of a whole number if none has its size
pub none_at : (n size : ℕ) (z : ℤ) → size ≡ unsigned_abs z → size < 2 ^ 64 → HasNoDouble size → double_place n ≡ whole_place z → ⊥
unfolding one_whole
none_at n size z e room none same = by (is_nan n) refl (same ∙ sym line)
  where
    line : on_line (sign_of z) (size * 10 ^ 6176) ≡ whole_place z
    line = ap (λ x. on_line (sign_of z) (x * 10 ^ 6176)) e ∙ whole_line z

    by : (b : Bool) → is_nan n ≡ b → (if b then 0 else on_line (is_negative n) (double_size n)) ≡ on_line (sign_of z) (size * 10 ^ 6176) → ⊥
    by true t q = let some = on_line_some (sign_of z) (size * 10 ^ 6176) (whole_low size room) in omega (arith, some, q)
    by false t q = none n (sizes_level (is_negative n) (sign_of z) (double_size n) (size * 10 ^ 6176) (double_low n t) (whole_low size room) q)

-- ---- a place has one double, except for the two zeros

positions : (a b x y : ℕ) → a < 2 ^ 53 → (2 ^ 52 ≤ b) → x < y → a * 2 ^ x ≡ b * 2 ^ y → ⊥
positions a b x y ha hb l e =
    let whole : 1 + (y - x - 1) + x ≡ y = omega arith in
    let split : b * 2 ^ y ≡ b * 2 ^ (1 + (y - x - 1)) * 2 ^ x = ap (λ n. b * 2 ^ n) (sym whole) ∙ ap (λ n. b * n) (pow-add 2 (1 + (y - x - 1)) x) ∙ sym (mul_assoc b (2 ^ (1 + (y - x - 1))) (2 ^ x)) in
    let same : a ≡ b * 2 ^ (1 + (y - x - 1)) = same_factor a (b * 2 ^ (1 + (y - x - 1))) (2 ^ x) (power_positive 2 x (lit< tt)) (e ∙ split) in
    let le : 1 ≤ 1 + (y - x - 1) = omega arith in
    let two : 2 ^ 1 ≤ 2 ^ (1 + (y - x - 1)) = pow-le-pow_right (lit< tt) le in
    let more : 2 ^ 52 * 2 ^ 1 ≤ b * 2 ^ (1 + (y - x - 1)) = mul-le (2 ^ 52) (2 ^ 1) b (2 ^ (1 + (y - x - 1))) hb two in
    omega (arith, same, more, ha)

three : {P : Type 0} (x y : ℕ) → (x < y → P) → (x ≡ y → P) → (y < x → P) → P
three {P} x y f g h = by (nat_cmp x y) (ranks x y)
  where
    by : (o : Ordering) → MatchOrdering o (x < y) (x ≡ y) (y < x) → P
    by Less l = f l
    by Equal e = g e
    by Greater k = h k

not_zero : (n : ℕ) → (n == 0) ≡ false → 0 < n
not_zero zero e = absurd cc
not_zero (suc n) e = omega arith

-- a fraction alone, beside one with the leading bit
low_high : (e f a b : ℕ) → e ≡ 0 → a < 2 ^ 52 → a * 2 ^ (e - 1) ≡ (b + 2 ^ 52) * 2 ^ (f - 1) → ⊥
low_high e f a b z h q =
    let low : a < 2 ^ 53 = omega arith in
    let high : 2 ^ 52 ≤ b + 2 ^ 52 = omega arith in
    three (e - 1) (f - 1)
    (λ l. positions a (b + 2 ^ 52) (e - 1) (f - 1) low high l q)
    (λ same. let level : a ≡ b + 2 ^ 52 = same_factor a (b + 2 ^ 52) (2 ^ (e - 1)) (power_positive 2 (e - 1) (lit< tt)) (q ∙ ap (λ x. (b + 2 ^ 52) * 2 ^ x) (sym same)) in omega (arith, level, h))
    (λ g. omega (arith, z, g))

-- the parts of a pattern, by whether its exponent is the least
module _ (n m : ℕ) where
  abbrev Signif : Bool → ℕ → ℕ
  Signif b f = if b then f else f + 2 ^ 52

  pub parts_level : (a b : Bool) → (exponent n == 0) ≡ a → (exponent m == 0) ≡ b → Signif a (fraction n) * 2 ^ (exponent n - 1) ≡ Signif b (fraction m) * 2 ^ (exponent m - 1)
      → (exponent n ≡ exponent m) × (fraction n ≡ fraction m)
  parts_level true true ea eb q =
      let zn : exponent n ≡ 0 = eqb-true (exponent n) 0 ea in
      let zm : exponent m ≡ 0 = eqb-true (exponent m) 0 eb in
      let same : fraction n ≡ fraction m = same_factor (fraction n) (fraction m) (2 ^ (exponent n - 1)) (power_positive 2 (exponent n - 1) (lit< tt)) (q ∙ ap (λ x. fraction m * 2 ^ (x - 1)) (zm ∙ sym zn)) in
      (zn ∙ sym zm, same)
  parts_level true false ea eb q = absurd (low_high (exponent n) (exponent m) (fraction n) (fraction m) (eqb-true (exponent n) 0 ea) (mod_below n (2 ^ 52) (lit< tt)) q)
  parts_level false true ea eb q = absurd (low_high (exponent m) (exponent n) (fraction m) (fraction n) (eqb-true (exponent m) 0 eb) (mod_below m (2 ^ 52) (lit< tt)) (sym q))
  parts_level false false ea eb q =
      let some : 0 < exponent n = not_zero (exponent n) ea in
      let more : 0 < exponent m = not_zero (exponent m) eb in
      let fn : fraction n < 2 ^ 52 = mod_below n (2 ^ 52) (lit< tt) in
      let fm : fraction m < 2 ^ 52 = mod_below m (2 ^ 52) (lit< tt) in
      let sn : fraction n + 2 ^ 52 < 2 ^ 53 = omega arith in
      let sm : fraction m + 2 ^ 52 < 2 ^ 53 = omega arith in
      let ln : 2 ^ 52 ≤ fraction n + 2 ^ 52 = omega arith in
      let lm : 2 ^ 52 ≤ fraction m + 2 ^ 52 = omega arith in
      let level : exponent n - 1 ≡ exponent m - 1 = three (exponent n - 1) (exponent m - 1)
      (λ l. absurd (positions (fraction n + 2 ^ 52) (fraction m + 2 ^ 52) (exponent n - 1) (exponent m - 1) sn lm l q))
      (λ e. e)
      (λ g. absurd (positions (fraction m + 2 ^ 52) (fraction n + 2 ^ 52) (exponent m - 1) (exponent n - 1) sm ln g (sym q))) in
      let same : fraction n + 2 ^ 52 ≡ fraction m + 2 ^ 52 = same_factor (fraction n + 2 ^ 52) (fraction m + 2 ^ 52) (2 ^ (exponent n - 1)) (power_positive 2 (exponent n - 1) (lit< tt)) (q ∙ ap (λ x. (fraction m + 2 ^ 52) * 2 ^ x) (sym level)) in
      (omega (arith, level, some, more), omega (arith, same))

  finite_low : is_nan n ≡ false → is_infinite n ≡ false → exponent n - 1 < 2046
  finite_low h t =
      let test : (exponent n == 2047) ≡ false = both_false (exponent n == 2047) (fraction n == 0) h t in
      let some : exponent n ≡ 2047 → ⊥ = λ e. let yes : (exponent n == 2047) ≡ true = ap (λ x. x == 2047) e in cc in
      let high : exponent n < 2 ^ 11 = mod_below (n / 2 ^ 52) (2 ^ 11) (lit< tt) in
      omega (arith, some, high)

-- equal sizes have equal parts
abbrev SizeBy : ℕ → Bool → ℕ
SizeBy n b = if b then infinite else significand n * 2 ^ (exponent n - 1) * least_double

pub sizes_parts : (n m : ℕ) → is_nan n ≡ false → is_nan m ≡ false → double_size n ≡ double_size m → (exponent n ≡ exponent m) × (fraction n ≡ fraction m)
sizes_parts n m hn hm e = by (is_infinite n) (is_infinite m) refl refl e
  where
    infinite_parts : (k : ℕ) → is_infinite k ≡ true → (exponent k ≡ 2047) × (fraction k ≡ 0)
    infinite_parts k t = let p = and_parts (exponent k == 2047) (fraction k == 0) t in (eqb-true (exponent k) 2047 p.0, eqb-true (fraction k) 0 p.1)

    by : (a b : Bool) → is_infinite n ≡ a → is_infinite m ≡ b → SizeBy n a ≡ SizeBy m b → (exponent n ≡ exponent m) × (fraction n ≡ fraction m)
    by true true ta tb q = let p = infinite_parts n ta in let r = infinite_parts m tb in (p.0 ∙ sym r.0, p.1 ∙ sym r.1)
    by true false ta tb q = absurd (apart (significand m * 2 ^ (exponent m - 1) * least_double) infinite (twos_below (significand m) (exponent m - 1) (significand_low m) (finite_low m n hm tb)) q)
    by false true ta tb q = absurd (apart (significand n * 2 ^ (exponent n - 1) * least_double) infinite (twos_below (significand n) (exponent n - 1) (significand_low n) (finite_low n m hn ta)) (sym q))
    by false false ta tb q = parts_level n m (exponent n == 0) (exponent m == 0) refl refl (same_factor (significand n * 2 ^ (exponent n - 1)) (significand m * 2 ^ (exponent m - 1)) least_double least_positive q)

zero_parts : (n : ℕ) → double_size n ≡ 0 → is_zero n ≡ true
zero_parts n e = by (is_infinite n) e
  where
    inner : (b : Bool) → (exponent n == 0) ≡ b → (if b then fraction n else fraction n + 2 ^ 52) ≡ 0 → is_zero n ≡ true
    inner true t q = ap (λ b. b && (fraction n == 0)) t ∙ ap (λ x. x == 0) q
    inner false t q = absurd (omega (arith, q))

    by : (b : Bool) → SizeBy n b ≡ 0 → is_zero n ≡ true
    by true q = let some = infinite_some in absurd (omega (arith, some, q))
    by false q =
        let some : 0 < 2 ^ (exponent n - 1) * least_double = mul-pos (power_positive 2 (exponent n - 1) (lit< tt)) least_positive in
        inner (exponent n == 0) refl (product_zero (significand n) (2 ^ (exponent n - 1) * least_double) some (sym (mul_assoc (significand n) (2 ^ (exponent n - 1)) least_double) ∙ q))

pattern_low : (n m : ℕ) → n < 2 ^ 63 → m < 2 ^ 63 → exponent n ≡ exponent m → fraction n ≡ fraction m → n ≡ m
pattern_low n m hn hm e f = omega (arith, e, f)

pattern_high : (n m : ℕ) → 2 ^ 63 ≤ n → 2 ^ 63 ≤ m → n < 2 ^ 64 → m < 2 ^ 64 → exponent n ≡ exponent m → fraction n ≡ fraction m → n ≡ m
pattern_high n m ln lm hn hm e f = omega (arith, e, f)

-- equal places of two doubles: one pattern, or two zeros
pub one_pattern : (n m : ℕ) → n < 2 ^ 64 → m < 2 ^ 64 → is_nan n ≡ false → is_nan m ≡ false → double_place n ≡ double_place m → (n ≡ m) ⊎ ((is_zero n ≡ true) × (is_zero m ≡ true))
one_pattern n m hn hm an am e = by (is_negative n) (is_negative m) refl refl (sym (line n an) ∙ e ∙ line m am)
  where
    line : (k : ℕ) → is_nan k ≡ false → double_place k ≡ on_line (is_negative k) (double_size k)
    line k a = ap (λ b. if b then 0 else on_line (is_negative k) (double_size k)) a

    zeros : double_size n ≡ 0 → double_size m ≡ 0 → (n ≡ m) ⊎ ((is_zero n ≡ true) × (is_zero m ≡ true))
    zeros a b = inr (zero_parts n a, zero_parts m b)

    by : (s t : Bool) → is_negative n ≡ s → is_negative m ≡ t → on_line s (double_size n) ≡ on_line t (double_size m) → (n ≡ m) ⊎ ((is_zero n ≡ true) × (is_zero m ≡ true))
    by true true s t q =
        let p = sizes_parts n m an am (sizes_level true true (double_size n) (double_size m) (double_low n an) (double_low m am) q) in
        let ln : 2 ^ 63 ≤ n = grind (arith, nat_tests) in
        let lm : 2 ^ 63 ≤ m = grind (arith, nat_tests) in
        inl (pattern_high n m ln lm hn hm p.0 p.1)
    by false false s t q =
        let p = sizes_parts n m an am (sizes_level false false (double_size n) (double_size m) (double_low n an) (double_low m am) q) in
        let ln : n < 2 ^ 63 = grind (arith, nat_tests) in
        let lm : m < 2 ^ 63 = grind (arith, nat_tests) in
        inl (pattern_low n m ln lm p.0 p.1)
    by true false s t q =
        let a = double_low n an in
        zeros (omega (arith, a, q)) (omega (arith, a, q))
    by false true s t q =
        let a = double_low m am in
        zeros (omega (arith, a, q)) (omega (arith, a, q))

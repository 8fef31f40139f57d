-- Comparisons of products and powers.
use Rattle.std.proofs.Common.{◌≡◌, ℕ, ℤ, pos, negsuc, zero, suc, ◌+◌, ◌-◌, ◌*◌, ◌/◌, ◌%◌, ◌^◌, ◌<◌, ◌≤◌, Bool, true, false, ◌==◌, if◌then◌else◌, refl, sym, ap, ◌∙◌, subst, arith, lit<, lit≤, mul-pos, mul-lt-mul_of_pos_right, mul_comm, mul_assoc, mul_right_comm, zero-mul, div-add-mod', div-lt_iff_lt-mul, le_trans, lt_of_lt_of_le, lt_of_le_of_lt, mul-le-mul_right, le-mul_of_pos_right}
use Rattle.std.proofs.Math.Nat.{one-le-pow, pow-le-pow_right}
use Rattle.std.proofs.lemmas.Bool.{eqb-true}
use Rattle.std.proofs.lemmas.Nat.{pow-add, mul-pow, mul-le}
use Rattle.std.specs.Cmp.{nat_cmp_is, nat_cmp_total, ranks}
use Rattle.std.specs.Ordering.{MatchOrdering, nat_cmp, match_ordering, ordering_reverse}
use Rattle.std.specs.declared.cmp.Ordering.{Ordering}
use Rattle.std.specs.declared.cmp.Ordering.TheVariants.{Less, Equal, Greater}
use Rattle.std.proofs.lemmas.Bool.Decides.{nat_tests}
use Rattle.std.specs.Prelude.{int_lt, IsTrue, unsigned_abs, ◌↔◌}
use Rattle.std.specs.Int.{is_negative}
use Rattle.bson_order.specs.Line.{infinite, least_double, one_whole, on_line, whole_place}
use Rattle.bson_order.specs.Sizes.{size_of, IsSize, place_of, IsNumber}
use Rattle.bson_order.specs.declared.numbers.Number.{Number}
use Rattle.bson_order.specs.declared.numbers.Number.TheVariants.{NotANumber, Sized}
use mathlib.Core.Bool.{beq}
use Rattle.bson_order.specs.declared.sizes.Size.{Size}
use Rattle.bson_order.specs.declared.sizes.Size.TheVariants as sizes

pub more_left : (n c : ℕ) → 0 < c → n ≤ c * n
more_left n c h = subst (λ m. n ≤ m) (mul_comm n c) (le-mul_of_pos_right n h)

-- ---- what an answer says

pub along : {P Q R S T U : Type 0} (r : Ordering) → (P → S) → (Q → T) → (R → U) → MatchOrdering r P Q R → MatchOrdering r S T U
along Less f g h m = f m
along Equal f g h m = g m
along Greater f g h m = h m

-- the other way round
pub turned : (x y : ℕ) (r s : Ordering) → r ≡ nat_cmp y x → s ≡ ordering_reverse r → s ≡ nat_cmp x y
turned x y r s e f = f ∙ ap ordering_reverse e ∙ sym (nat_cmp_total.antisymm x y)

-- a factor on both sides
pub cancel : (a b k : ℕ) → 0 < k → nat_cmp (a * k) (b * k) ≡ nat_cmp a b
cancel a b k h = sym (nat_cmp_is (a * k) (b * k) (nat_cmp a b)
    (along (nat_cmp a b) (λ l. mul-lt-mul_of_pos_right l h) (λ e. ap (λ n. n * k) e) (λ g. mul-lt-mul_of_pos_right g h) (ranks a b)))

pub below : (a b : ℕ) → a < b → Less ≡ nat_cmp a b
below a b h = nat_cmp_is a b Less h

pub above : (a b : ℕ) → b < a → Greater ≡ nat_cmp a b
above a b h = nat_cmp_is a b Greater h

pub level : (a b : ℕ) → a ≡ b → Equal ≡ nat_cmp a b
level a b h = nat_cmp_is a b Equal h

-- ---- through a quotient

quotient_below : (a f b : ℕ) → 0 < f → a < b / f → a * f < b
quotient_below a f b h l =
    let step : a * f < b / f * f = mul-lt-mul_of_pos_right l h in
    omega (arith, step, div-add-mod' b f)

quotient_above : (a f b : ℕ) → 0 < f → b / f < a → b < a * f
quotient_above a f b h g = (div-lt_iff_lt-mul h).0 g

quotient_level : (a f b : ℕ) (t : Bool) → 0 < f → a ≡ b / f → (b % f == 0) ≡ t → MatchOrdering (if t then Equal else Less) (a * f < b) (a * f ≡ b) (b < a * f)
quotient_level a f b true h e t =
    let none : b % f ≡ 0 = eqb-true (b % f) 0 t in
    let all : b / f * f + b % f ≡ b = div-add-mod' b f in
    ap (λ n. n * f) e ∙ omega (arith, none, all)
quotient_level a f b false h e t =
    let some : b % f ≡ 0 → ⊥ = eqb-false' (b % f) t in
    let all : b / f * f + b % f ≡ b = div-add-mod' b f in
    let less : b / f * f < b = omega (arith, some, all) in
    subst (λ n. n * f < b) (sym e) less
  where
    eqb-false' : (n : ℕ) → (n == 0) ≡ false → n ≡ 0 → ⊥
    eqb-false' n t z = let u : (0 == 0) ≡ false = subst (λ m. (m == 0) ≡ false) z t in cc

by_quotient : (a f b : ℕ) (q : Ordering) → 0 < f → MatchOrdering q (a < b / f) (a ≡ b / f) (b / f < a)
    → MatchOrdering (match_ordering q Less (if b % f == 0 then Equal else Less) Greater) (a * f < b) (a * f ≡ b) (b < a * f)
by_quotient a f b Less h m = quotient_below a f b h m
by_quotient a f b Equal h m = quotient_level a f b (b % f == 0) h m refl
by_quotient a f b Greater h m = quotient_above a f b h m

pub times : (a f b : ℕ) (q r : Ordering) → 0 < f → q ≡ nat_cmp a (b / f) → r ≡ match_ordering q Less (if b % f == 0 then Equal else Less) Greater → r ≡ nat_cmp (a * f) b
times a f b q r h e is = is ∙ nat_cmp_is (a * f) b _ (by_quotient a f b q h (subst (λ o. MatchOrdering o (a < b / f) (a ≡ b / f) (b / f < a)) (sym e) (ranks a (b / f))))

-- ---- powers

pub power_positive : (b k : ℕ) → 0 < b → 0 < b ^ k
power_positive b k h = one-le-pow k b h

pub tens_fit : (k : ℕ) → k ≤ 34 → 10 ^ k < 2 ^ 128
tens_fit k h = lt_of_le_of_lt (pow-le-pow_right (lit< tt) h) (lit< tt)

pub twos_fit : (k : ℕ) → k < 113 → 2 ^ k < 2 ^ 128
twos_fit k h =
    let low : k ≤ 112 = omega arith in
    lt_of_le_of_lt (pow-le-pow_right (lit< tt) low) (lit< tt)

pub fives_fit : (k : ℕ) → k ≤ 55 → 5 ^ k < 2 ^ 128
fives_fit k h = lt_of_le_of_lt (pow-le-pow_right (lit< tt) h) (lit< tt)

-- so great a power that the other side is less
pub beyond : (b c k m d : ℕ) → 0 < b → 0 < c → m ≤ k → d < b ^ m → Greater ≡ nat_cmp (c * b ^ k) d
beyond b c k m d hb hc le lt =
    let grows : b ^ m ≤ b ^ k = pow-le-pow_right hb le in
    let more : b ^ k ≤ c * b ^ k = more_left (b ^ k) c hc in
    above (c * b ^ k) d (omega (arith, grows, more, lt))

pub nothing : (k d p : ℕ) → k ≡ 0 → nat_cmp 0 d ≡ nat_cmp (k * p) d
nothing k d p e = ap (λ n. nat_cmp n d) (sym (zero-mul p) ∙ ap (λ n. n * p) (sym e))

-- one power on the left, or both
pub lifted : (b d f c e : ℕ) → 0 < b → e ≤ f → nat_cmp (d * b ^ (f - e)) c ≡ nat_cmp (d * b ^ f) (c * b ^ e)
lifted b d f c e h le =
    let whole : f - e + e ≡ f = omega arith in
    let split : d * b ^ f ≡ d * b ^ (f - e) * b ^ e = ap (λ n. d * b ^ n) (sym whole) ∙ ap (λ n. d * n) (pow-add b (f - e) e) ∙ sym (mul_assoc d (b ^ (f - e)) (b ^ e)) in
    sym (cancel (d * b ^ (f - e)) c (b ^ e) (power_positive b e h)) ∙ ap (λ n. nat_cmp n (c * b ^ e)) (sym split)

pub least_positive : 0 < least_double
unfolding least_double
least_positive = mul-pos (power_positive 2 5102 (lit< tt)) (power_positive 5 6176 (lit< tt))

-- ---- powers of five beside powers of two

pub many_fives : (a n k b : ℕ) → 0 < a → 55 < n → b < 2 ^ 113 → Greater ≡ nat_cmp (a * 5 ^ n * 2 ^ k) b
many_fives a n k b ha hn hb =
    let grows : 5 ^ 56 ≤ 5 ^ n = pow-le-pow_right (lit< tt) hn in
    let big : 2 ^ 113 ≤ 5 ^ 56 = lit≤ tt in
    let more : 5 ^ n ≤ a * 5 ^ n = more_left (5 ^ n) a ha in
    let again : a * 5 ^ n ≤ a * 5 ^ n * 2 ^ k = le-mul_of_pos_right (a * 5 ^ n) (power_positive 2 k (lit< tt)) in
    above (a * 5 ^ n * 2 ^ k) b (lt_of_lt_of_le hb (le_trans big (le_trans grows (le_trans more again))))

pub beside : (a f k b : ℕ) (q r : Ordering) → 0 < f → q ≡ nat_cmp (a * 2 ^ k) (b / f) → r ≡ match_ordering q Less (if b % f == 0 then Equal else Less) Greater → r ≡ nat_cmp (a * f * 2 ^ k) b
beside a f k b q r h e is = times (a * 2 ^ k) f b q r h e is ∙ ap (λ n. nat_cmp n b) (mul_right_comm a (2 ^ k) f)

-- both sides times a power of two
pub grown : (p y k x b : ℕ) (r : Ordering) → x + k ≡ y → r ≡ nat_cmp p (b * 2 ^ k) → r ≡ nat_cmp (p * 2 ^ x) (b * 2 ^ y)
grown p y k x b r e is =
    let split : b * 2 ^ y ≡ b * 2 ^ k * 2 ^ x = ap (λ n. b * 2 ^ n) (sym e ∙ omega arith) ∙ ap (λ n. b * n) (pow-add 2 k x) ∙ sym (mul_assoc b (2 ^ k) (2 ^ x)) in
    is ∙ sym (cancel p (b * 2 ^ k) (2 ^ x) (power_positive 2 x (lit< tt))) ∙ ap (λ n. nat_cmp (p * 2 ^ x) n) (sym split)

pub shrunk : (p x k y b : ℕ) (r : Ordering) → y + k ≡ x → r ≡ nat_cmp (p * 2 ^ k) b → r ≡ nat_cmp (p * 2 ^ x) (b * 2 ^ y)
shrunk p x k y b r e is =
    let split : p * 2 ^ x ≡ p * 2 ^ k * 2 ^ y = ap (λ n. p * 2 ^ n) (sym e ∙ omega arith) ∙ ap (λ n. p * n) (pow-add 2 k y) ∙ sym (mul_assoc p (2 ^ k) (2 ^ y)) in
    is ∙ sym (cancel (p * 2 ^ k) b (2 ^ y) (power_positive 2 y (lit< tt))) ∙ ap (λ n. nat_cmp n (b * 2 ^ y)) (sym split)

-- very many fives
pub too_many : (a n x b y : ℕ) → 0 < a → 360 ≤ n → n ≤ x → b < 2 ^ 113 → y + n ≤ x + 1074 → Greater ≡ nat_cmp (a * 5 ^ n * 2 ^ x) (b * 2 ^ y)
too_many a n x b y ha hn hx hb hy =
    let k = x - n in
    let exps : 1074 + k ≡ 1074 + (x - n) = refl in
    let low : y ≤ 1074 + k = omega arith in
    let right : b * 2 ^ y ≤ b * 2 ^ (1074 + k) = mul-le b (2 ^ y) b (2 ^ (1074 + k)) (omega arith) (pow-le-pow_right (lit< tt) low) in
    let right2 : b * 2 ^ (1074 + k) < 2 ^ 113 * 2 ^ (1074 + k) = mul-lt-mul_of_pos_right hb (power_positive 2 (1074 + k) (lit< tt)) in
    let right3 : 2 ^ 113 * 2 ^ (1074 + k) ≡ 2 ^ 113 * 2 ^ 1074 * 2 ^ k = ap (λ m. 2 ^ 113 * m) (pow-add 2 1074 k) ∙ sym (mul_assoc (2 ^ 113) (2 ^ 1074) (2 ^ k)) in
    let numerals : 2 ^ 113 * 2 ^ 1074 ≤ 10 ^ 360 = lit≤ tt in
    let step : 2 ^ 113 * 2 ^ 1074 * 2 ^ k ≤ 10 ^ 360 * 2 ^ k = mul-le-mul_right (2 ^ k) numerals in
    let tens : 10 ^ 360 ≤ 10 ^ n = pow-le-pow_right (lit< tt) hn in
    let step2 : 10 ^ 360 * 2 ^ k ≤ 10 ^ n * 2 ^ k = mul-le-mul_right (2 ^ k) tens in
    let ten : 10 ^ n ≡ 5 ^ n * 2 ^ n = mul-pow 5 2 n in
    let whole : n + k ≡ x = omega arith in
    let same : 10 ^ n * 2 ^ k ≡ 5 ^ n * 2 ^ x = ap (λ m. m * 2 ^ k) ten ∙ mul_assoc (5 ^ n) (2 ^ n) (2 ^ k) ∙ ap (λ m. 5 ^ n * m) (sym (pow-add 2 n k) ∙ ap (λ m. 2 ^ m) whole) in
    let more : 5 ^ n * 2 ^ x ≤ a * (5 ^ n * 2 ^ x) = more_left (5 ^ n * 2 ^ x) a ha in
    let assoc : a * (5 ^ n * 2 ^ x) ≡ a * 5 ^ n * 2 ^ x = sym (mul_assoc a (5 ^ n) (2 ^ x)) in
    let chain : b * 2 ^ y < a * (5 ^ n * 2 ^ x) =
    lt_of_le_of_lt right (lt_of_lt_of_le right2 (subst (λ m. m ≤ a * (5 ^ n * 2 ^ x)) (sym right3) (le_trans step (le_trans step2 (subst (λ m. m ≤ a * (5 ^ n * 2 ^ x)) (sym same) more))))) in
    above (a * 5 ^ n * 2 ^ x) (b * 2 ^ y) (subst (λ m. b * 2 ^ y < m) assoc chain)

-- ---- decimals beside doubles

pub whole_doubles : least_double * 2 ^ 1074 ≡ 10 ^ 6176
unfolding least_double
whole_doubles = refl

mixed_parts : (s p l t q f d : ℕ) → l * t ≡ d * (q * f) → s * p * l * t ≡ s * f * (p * q) * d
mixed_parts s p l t q f d e =
    mul_assoc (s * p) l t ∙ ap (λ n. s * p * n) e ∙ grind arith

-- with an exponent of ten below that of a whole number
pub mixed_low : (c e j s x : ℕ) → e + j ≡ 6176 → nat_cmp (c * 2 ^ 1074) (s * 5 ^ j * 2 ^ (x + j)) ≡ nat_cmp (c * 10 ^ e) (s * 2 ^ x * least_double)
mixed_low c e j s x h =
    let tens : 10 ^ 6176 ≡ 10 ^ e * (2 ^ j * 5 ^ j) = ap (λ n. 10 ^ n) (sym h) ∙ pow-add 10 e j ∙ ap (λ n. 10 ^ e * n) (mul-pow 2 5 j) in
    let right : s * 2 ^ x * least_double * 2 ^ 1074 ≡ s * 5 ^ j * (2 ^ x * 2 ^ j) * 10 ^ e = mixed_parts s (2 ^ x) least_double (2 ^ 1074) (2 ^ j) (5 ^ j) (10 ^ e) (whole_doubles ∙ tens) in
    let right2 : s * 5 ^ j * (2 ^ x * 2 ^ j) * 10 ^ e ≡ s * 5 ^ j * 2 ^ (x + j) * 10 ^ e = ap (λ n. s * 5 ^ j * n * 10 ^ e) (sym (pow-add 2 x j)) in
    let left : c * 10 ^ e * 2 ^ 1074 ≡ c * 2 ^ 1074 * 10 ^ e = mul_right_comm c (10 ^ e) (2 ^ 1074) in
    sym (cancel (c * 2 ^ 1074) (s * 5 ^ j * 2 ^ (x + j)) (10 ^ e) (power_positive 10 e (lit< tt)))
    ∙ ap (λ n. nat_cmp n (s * 5 ^ j * 2 ^ (x + j) * 10 ^ e)) (sym left)
    ∙ ap (λ n. nat_cmp (c * 10 ^ e * 2 ^ 1074) n) (sym (right ∙ right2))
    ∙ cancel (c * 10 ^ e) (s * 2 ^ x * least_double) (2 ^ 1074) (power_positive 2 1074 (lit< tt))

-- and at least as great
pub mixed_high : (c e i s x : ℕ) → 6176 + i ≡ e → nat_cmp (c * 5 ^ i * 2 ^ (i + 1074)) (s * 2 ^ x) ≡ nat_cmp (c * 10 ^ e) (s * 2 ^ x * least_double)
mixed_high c e i s x h =
    let tens : 10 ^ e ≡ 10 ^ 6176 * (2 ^ i * 5 ^ i) = ap (λ n. 10 ^ n) (sym h) ∙ pow-add 10 6176 i ∙ ap (λ n. 10 ^ 6176 * n) (mul-pow 2 5 i) in
    let right : s * 2 ^ x * least_double * 2 ^ 1074 ≡ s * 2 ^ x * 10 ^ 6176 = mul_assoc (s * 2 ^ x) least_double (2 ^ 1074) ∙ ap (λ n. s * 2 ^ x * n) whole_doubles in
    let left : c * 10 ^ e * 2 ^ 1074 ≡ c * 5 ^ i * 2 ^ (i + 1074) * 10 ^ 6176 = ap (λ n. c * n * 2 ^ 1074) tens ∙ parts c (10 ^ 6176) (2 ^ i) (5 ^ i) (2 ^ 1074) ∙ ap (λ n. c * 5 ^ i * n * 10 ^ 6176) (sym (pow-add 2 i 1074)) in
    sym (cancel (c * 5 ^ i * 2 ^ (i + 1074)) (s * 2 ^ x) (10 ^ 6176) (power_positive 10 6176 (lit< tt)))
    ∙ ap (λ n. nat_cmp n (s * 2 ^ x * 10 ^ 6176)) (sym left)
    ∙ ap (λ n. nat_cmp (c * 10 ^ e * 2 ^ 1074) n) (sym right)
    ∙ cancel (c * 10 ^ e) (s * 2 ^ x * least_double) (2 ^ 1074) (power_positive 2 1074 (lit< tt))
  where
    parts : (c w q f t : ℕ) → c * (w * (q * f)) * t ≡ c * f * (q * t) * w
    parts c w q f t = grind arith

-- ---- sizes below the infinite

tens_below : (c e : ℕ) → c < 10 ^ 34 → e < 12288 → c * 10 ^ e < infinite
unfolding infinite
tens_below c e hc he =
    let le : e ≤ 12288 = omega arith in
    let up : 10 ^ e ≤ 10 ^ 12288 = pow-le-pow_right (lit< tt) le in
    let first : c * 10 ^ e ≤ c * 10 ^ 12288 = mul-le c (10 ^ e) c (10 ^ 12288) (omega arith) up in
    let second : c * 10 ^ 12288 < 10 ^ 34 * 10 ^ 12288 = mul-lt-mul_of_pos_right hc (power_positive 10 12288 (lit< tt)) in
    let last : 10 ^ 34 * 10 ^ 12288 ≤ 10 ^ 12400 = lit≤ tt in
    lt_of_le_of_lt first (lt_of_lt_of_le second last)

pub twos_below : (s x : ℕ) → s < 2 ^ 53 → x < 2046 → s * 2 ^ x * least_double < infinite
unfolding infinite least_double
twos_below s x hs hx =
    let le : x ≤ 2046 = omega arith in
    let up : 2 ^ x ≤ 2 ^ 2046 = pow-le-pow_right (lit< tt) le in
    let first : s * 2 ^ x ≤ 2 ^ 53 * 2 ^ 2046 = mul-le s (2 ^ x) (2 ^ 53) (2 ^ 2046) (omega arith) up in
    let second : s * 2 ^ x * (2 ^ 5102 * 5 ^ 6176) ≤ 2 ^ 53 * 2 ^ 2046 * (2 ^ 5102 * 5 ^ 6176) = mul-le-mul_right (2 ^ 5102 * 5 ^ 6176) first in
    let last : 2 ^ 53 * 2 ^ 2046 * (2 ^ 5102 * 5 ^ 6176) < 10 ^ 12400 = lit< tt in
    lt_of_le_of_lt second last

pub infinite_some : 0 < infinite
unfolding infinite
infinite_some = power_positive 10 12400 (lit< tt)

pub no_more : (n : Size) → IsSize n → size_of n ≤ infinite
no_more sizes.Infinite h = omega arith
no_more (sizes.Tens c e) h = let l = tens_below c e h.0 h.1 in omega arith
no_more (sizes.Twos s x) h = let l = twos_below s x h.0 h.1 in omega arith

pub tens_less : (n m : Size) (c e : ℕ) → m ≡ sizes.Infinite → n ≡ sizes.Tens c e → IsSize n → (Less ≡ nat_cmp (size_of n) (size_of m)) × (Greater ≡ nat_cmp (size_of m) (size_of n))
tens_less n m c e em en h =
    let parts : IsSize (sizes.Tens c e) = subst IsSize en h in
    let l = tens_below c e parts.0 parts.1 in
    let less : size_of n < size_of m = subst (λ x. size_of n < size_of x) (sym em) (subst (λ x. size_of x < infinite) (sym en) l) in
    (below (size_of n) (size_of m) less, above (size_of m) (size_of n) less)

pub twos_less : (n m : Size) (s x : ℕ) → m ≡ sizes.Infinite → n ≡ sizes.Twos s x → IsSize n → (Less ≡ nat_cmp (size_of n) (size_of m)) × (Greater ≡ nat_cmp (size_of m) (size_of n))
twos_less n m s x em en h =
    let parts : IsSize (sizes.Twos s x) = subst IsSize en h in
    let l = twos_below s x parts.0 parts.1 in
    let less : size_of n < size_of m = subst (λ y. size_of n < size_of y) (sym em) (subst (λ y. size_of y < infinite) (sym en) l) in
    (below (size_of n) (size_of m) less, above (size_of m) (size_of n) less)

-- ---- zero

pub product_zero : (c p : ℕ) → 0 < p → c * p ≡ 0 → c ≡ 0
product_zero zero p h e = refl
product_zero (suc c) p h e = let some : 0 < suc c * p = mul-pos (omega arith) h in absurd (omega arith)

pub told_zero : (c p : ℕ) → 0 < p → IsTrue (c == 0) ↔ (c * p ≡ 0)
told_zero c p h = (
  λ t. let z : c ≡ 0 = eqb-true c 0 t in ap (λ n. n * p) z ∙ zero-mul p,
  λ e. let z : c ≡ 0 = product_zero c p h e in subst (λ n. IsTrue (n == 0)) (sym z) refl,
)

pub infinite_told : (n : Size) → n ≡ sizes.Infinite → IsTrue false ↔ (size_of n ≡ 0)
infinite_told n e = (λ h. absurd cc, λ z. absurd (let same : infinite ≡ 0 = subst (λ m. size_of m ≡ 0) e z in let some = infinite_some in omega arith))

pub tens_told : (n : Size) (c e : ℕ) → n ≡ sizes.Tens c e → IsTrue (c == 0) ↔ (size_of n ≡ 0)
tens_told n c e is = subst (λ m. IsTrue (c == 0) ↔ (size_of m ≡ 0)) (sym is) (told_zero c (10 ^ e) (power_positive 10 e (lit< tt)))

pub twos_told : (n : Size) (s x : ℕ) → n ≡ sizes.Twos s x → IsTrue (s == 0) ↔ (size_of n ≡ 0)
twos_told n s x is =
    let told = told_zero s (2 ^ x * least_double) (mul-pos (power_positive 2 x (lit< tt)) least_positive) in
    let same : s * 2 ^ x * least_double ≡ s * (2 ^ x * least_double) = mul_assoc s (2 ^ x) least_double in
    subst (λ m. IsTrue (s == 0) ↔ (size_of m ≡ 0)) (sym is) (subst (λ k. IsTrue (s == 0) ↔ (k ≡ 0)) (sym same) told)

-- ---- on the line

pub both_below : (m k : ℕ) → m ≤ infinite → k ≤ infinite → nat_cmp k m ≡ nat_cmp (suc infinite - m) (suc infinite - k)
both_below m k hm hk = nat_cmp_is (suc infinite - m) (suc infinite - k) (nat_cmp k m)
    (along (nat_cmp k m) (λ l. omega (arith, l)) (λ e. ap (λ n. suc infinite - n) (sym e)) (λ g. omega (arith, g)) (ranks k m))

pub both_above : (m k : ℕ) → nat_cmp m k ≡ nat_cmp (suc infinite + m) (suc infinite + k)
both_above m k = nat_cmp_is (suc infinite + m) (suc infinite + k) (nat_cmp m k)
    (along (nat_cmp m k) (λ l. omega (arith, l)) (λ e. ap (λ n. suc infinite + n) e) (λ g. omega (arith, g)) (ranks m k))

-- a sign in front of each: both the same, or one above and one below zero
pub signs_same : (s t : Bool) (m k : ℕ) (r : Ordering) → s ≡ t → m ≤ infinite → k ≤ infinite → r ≡ (if s then nat_cmp k m else nat_cmp m k) → r ≡ nat_cmp (on_line s m) (on_line t k)
signs_same true t m k r e hm hk is = is ∙ both_below m k hm hk ∙ ap (λ b. nat_cmp (suc infinite - m) (on_line b k)) e
signs_same false t m k r e hm hk is = is ∙ both_above m k ∙ ap (λ b. nat_cmp (suc infinite + m) (on_line b k)) e

pub signs_apart : (s t : Bool) (m k : ℕ) → (s ≡ t → ⊥) → m ≤ infinite → k ≤ infinite → (m ≡ 0 → k ≡ 0 → ⊥) → (if s then Less else Greater) ≡ nat_cmp (on_line s m) (on_line t k)
signs_apart true true m k d hm hk z = absurd (d refl)
signs_apart false false m k d hm hk z = absurd (d refl)
signs_apart true false m k d hm hk z = below (suc infinite - m) (suc infinite + k) (by_zero m k hm z)
  where
    by_zero : (m k : ℕ) → m ≤ infinite → (m ≡ 0 → k ≡ 0 → ⊥) → suc infinite - m < suc infinite + k
    by_zero zero zero h z = absurd (z refl refl)
    by_zero zero (suc k) h z = omega arith
    by_zero (suc m) k h z = omega arith
signs_apart false true m k d hm hk z = above (suc infinite + m) (suc infinite - k) (by_zero m k hk z)
  where
    by_zero : (m k : ℕ) → k ≤ infinite → (m ≡ 0 → k ≡ 0 → ⊥) → suc infinite - k < suc infinite + m
    by_zero zero zero h z = absurd (z refl refl)
    by_zero zero (suc k) h z = omega arith
    by_zero (suc m) k h z = omega arith

pub zeros_level : (s t : Bool) (m k : ℕ) → m ≡ 0 → k ≡ 0 → Equal ≡ nat_cmp (on_line s m) (on_line t k)
zeros_level s t m k em ek = level (on_line s m) (on_line t k) (ap (on_line s) em ∙ zero_line s ∙ sym (zero_line t) ∙ ap (on_line t) (sym ek))
  where
    zero_line : (s : Bool) → on_line s 0 ≡ suc infinite
    zero_line true = omega arith
    zero_line false = omega arith

pub on_line_some : (s : Bool) (m : ℕ) → m ≤ infinite → 0 < on_line s m
on_line_some true m h = omega arith
on_line_some false m h = omega arith

-- ---- whole numbers

pub whole_line : (z : ℤ) → on_line (is_negative z) (unsigned_abs z * 10 ^ 6176) ≡ whole_place z
unfolding one_whole
whole_line (pos n) =
    let none : int_lt (pos n) (pos 0) ≡ false = grind (arith, nat_tests) in
    ap (λ b. on_line b (n * 10 ^ 6176)) none
whole_line (negsuc n) = refl

-- nothing beside a double
pub started : (c s t p l : ℕ) (r : Ordering) → c ≡ 0 → 0 < p → 0 < l → r ≡ nat_cmp 0 s → r ≡ nat_cmp (c * t) (s * p * l)
started c s t p l r e hp hl is =
    let pos : 0 < p * l = mul-pos hp hl in
    is ∙ sym (cancel 0 s (p * l) pos) ∙ ap (λ n. nat_cmp n (s * (p * l))) (zero-mul (p * l) ∙ sym (zero-mul t) ∙ ap (λ n. n * t) (sym e)) ∙ ap (λ n. nat_cmp (c * t) n) (sym (mul_assoc s p l))

pub negatives : (s t : Bool) (m k : ℕ) (r : Ordering) → beq s t ≡ true → s ≡ true → m ≤ infinite → k ≤ infinite → r ≡ nat_cmp k m → r ≡ nat_cmp (on_line s m) (on_line t k)
negatives true true m k r e f hm hk is = is ∙ both_below m k hm hk
negatives true false m k r e f hm hk is = absurd cc
negatives false t m k r e f hm hk is = absurd cc

pub nan_less : (n m : Number) (s : Bool) (k : Size) → n ≡ NotANumber → m ≡ Sized s k → IsNumber m → (Less ≡ nat_cmp (place_of n) (place_of m)) × (Greater ≡ nat_cmp (place_of m) (place_of n))
nan_less n m s k en em h =
    let sized : IsSize k = subst IsNumber em h in
    let some : 0 < on_line s (size_of k) = on_line_some s (size_of k) (no_more k sized) in
    let less : place_of n < place_of m = subst (λ x. place_of x < place_of m) (sym en) (subst (λ x. 0 < place_of x) (sym em) some) in
    (below (place_of n) (place_of m) less, above (place_of m) (place_of n) less)

some_not_zero : (n : ℕ) → 0 < n → false ≡ (n == 0)
some_not_zero n h = by (n == 0) refl
  where
    by : (b : Bool) → (n == 0) ≡ b → false ≡ b
    by true e = absurd (let z : n ≡ 0 = eqb-true n 0 e in omega arith)
    by false e = refl

pub sized_told : (n : Number) (s : Bool) (k : Size) → n ≡ Sized s k → IsNumber n → false ≡ (place_of n == 0)
sized_told n s k e h =
    let sized : IsSize k = subst IsNumber e h in
    subst (λ (m : Number). false ≡ (place_of m == 0)) (sym e) (some_not_zero (on_line s (size_of k)) (on_line_some s (size_of k) (no_more k sized)))

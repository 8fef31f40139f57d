-- Long division, and quotients that are rounded.
use Rattle.std.proofs.Common.{◌≡◌, ℕ, zero, suc, ◌+◌, ◌-◌, ◌*◌, ◌/◌, ◌%◌, ◌^◌, ◌<◌, ◌≤◌, ◌⊎◌, ◌==◌, inl, inr, Bool, true, false, if◌then◌else◌, refl, sym, ap, ◌∙◌, subst, arith, lit<, mul_comm, mul_assoc, le_trans, mod-lt, div-add-mod', mul-le-mul_right, div-lt_iff_lt-mul}
use Rattle.std.proofs.Math.Nat.{pow-suc}
use Rattle.std.proofs.lemmas.Nat.{pow-add, le-div, div-mul-add, mod-mul-add}
use Rattle.std.proofs.lemmas.Bool.{cases_lt}
use Rattle.std.proofs.lemmas.Bool.Decides.{nat_tests}
use Rattle.bson_decimal.specs.Arithmetic.{nearest, nearest_decimal, decimal_of, zeros_from, zeros_to_divide, quotient, infinity_times}
use Rattle.bson_decimal.specs.Wides.{sticky}
use Rattle.bson_decimal.proofs.RoundLemmas.{nearest_least, some_power}
use Rattle.bson_decimal.proofs.SumLemmas.{nearest_close}
use Rattle.bson_decimal.proofs.ScaleLemmas.{addend, addend_none, addend_tie, addend_off, addend_one, sticky_addend}
use Rattle.bson_decimal.proofs.CutLemmas.{Agree, agree_decimal, more_zeros, nearest_times}

-- ---- one digit more

spread : (n d : ℕ) → n * 10 ≡ (10 * (n / d) + 10 * (n % d) / d) * d + 10 * (n % d) % d
spread n d = ap (λ m. m * 10) (sym (div-add-mod' n d)) ∙ turn (n / d) d (n % d) ∙ ap (λ m. 10 * (n / d) * d + m) (sym (div-add-mod' (10 * (n % d)) d)) ∙ gather (10 * (n / d)) d (10 * (n % d) / d) (10 * (n % d) % d)
  where
    turn : (q d r : ℕ) → (q * d + r) * 10 ≡ 10 * q * d + 10 * r
    turn q d r = grind arith

    gather : (a d b r : ℕ) → a * d + (b * d + r) ≡ (a + b) * d + r
    gather a d b r = grind arith

pub by_one : (n : ℕ) → n ≡ n * 1
by_one n = omega arith

next_power : (c z : ℕ) → c * 10 ^ z * 10 ≡ c * 10 ^ (z + 1)
next_power c z = mul_assoc c (10 ^ z) 10 ∙ ap (λ p. c * p) (sym (pow-add 10 z 1))

pub next_whole : (c d q r z : ℕ) → 0 < d → q ≡ c * 10 ^ z / d → r ≡ c * 10 ^ z % d → 10 * q + 10 * r / d ≡ c * 10 ^ (z + 1) / d
next_whole c d q r z h eq er =
    let n = c * 10 ^ z in
    ap (λ q. 10 * q + 10 * r / d) eq ∙ ap (λ r. 10 * (n / d) + 10 * r / d) er
    ∙ sym (ap (λ m. m / d) (spread n d) ∙ div-mul-add (10 * (n / d) + 10 * (n % d) / d) d (10 * (n % d) % d) (mod-lt (10 * (n % d)) h))
    ∙ ap (λ m. m / d) (next_power c z)

pub next_rest : (c d r z : ℕ) → 0 < d → r ≡ c * 10 ^ z % d → 10 * r % d ≡ c * 10 ^ (z + 1) % d
next_rest c d r z h er =
    let n = c * 10 ^ z in
    ap (λ r. 10 * r % d) er
    ∙ sym (ap (λ m. m % d) (spread n d) ∙ mod-mul-add (10 * (n / d) + 10 * (n % d) / d) d (10 * (n % d) % d) (mod-lt (10 * (n % d)) h))
    ∙ ap (λ m. m % d) (next_power c z)

-- a digit is below ten
pub digit_small : (d r n : ℕ) → 0 < d → r ≡ n % d → 10 * r / d < 10
digit_small d r n h e = let less : n % d < d = mod-lt n h in (div-lt_iff_lt-mul h).1 (omega (arith, less, e))

pub rest_small : (d r n : ℕ) → 0 < d → r ≡ n % d → r < d
rest_small d r n h e = subst (λ m. m < d) (sym e) (mod-lt n h)

-- ---- how many zeros

zeros_stop : (more c d z : ℕ) → c * 10 ^ z % d ≡ 0 → zeros_from (suc more) c d z ≡ z
zeros_stop more c d z e = let t : (c * 10 ^ z % d == 0) ≡ true = grind (arith, nat_tests) in ap (λ b. if b then z else zeros_from more c d (suc z)) t

zeros_onward : (more c d z : ℕ) → 0 < c * 10 ^ z % d → zeros_from (suc more) c d z ≡ zeros_from more c d (suc z)
zeros_onward more c d z h = let t : (c * 10 ^ z % d == 0) ≡ false = grind (arith, nat_tests) in ap (λ b. if b then z else zeros_from more c d (suc z)) t

-- what is left of the search with z zeros
unfoldable pub zeros_left : ℕ → ℕ → ℕ → ℕ
zeros_left c d z = zeros_from (68 - z) c d z

pub zeros_begin : (c d : ℕ) → zeros_left c d 0 ≡ zeros_to_divide c d
unfolding zeros_left zeros_to_divide
zeros_begin c d = refl

pub zeros_next : (c d r z k : ℕ) → z < 68 → r ≡ c * 10 ^ z % d → 0 < r → zeros_left c d z ≡ k → zeros_left c d (z + 1) ≡ k
unfolding zeros_left
zeros_next c d r z k h er some e =
    let first : 68 - z ≡ suc (67 - z) = omega arith in
    let second : 68 - (z + 1) ≡ 67 - z = omega arith in
    let third : z + 1 ≡ suc z = omega arith in
    ap (λ m. zeros_from m c d (z + 1)) second ∙ ap (λ y. zeros_from (67 - z) c d y) third
    ∙ sym (zeros_onward (67 - z) c d z (subst (λ m. 0 < m) er some)) ∙ ap (λ m. zeros_from m c d z) (sym first) ∙ e

pub zeros_end : (c d r z k : ℕ) → z < 68 → r ≡ c * 10 ^ z % d → r ≡ 0 → zeros_left c d z ≡ k → z ≡ k
unfolding zeros_left
zeros_end c d r z k h er none e =
    let first : 68 - z ≡ suc (67 - z) = omega arith in
    sym (zeros_stop (67 - z) c d z (sym er ∙ none)) ∙ ap (λ m. zeros_from m c d z) (sym first) ∙ e

zeros_least : (more c d z : ℕ) → z ≤ zeros_from more c d z
zeros_least zero c d z = omega arith
zeros_least (suc more) c d z = by (c * 10 ^ z % d == 0) (zeros_least more c d (suc z))
  where
    by : (b : Bool) → suc z ≤ zeros_from more c d (suc z) → z ≤ (if b then z else zeros_from more c d (suc z))
    by true h = omega arith
    by false h = omega (arith, h)

zeros_most : (more c d z : ℕ) → zeros_from more c d z ≤ z + more
zeros_most zero c d z = omega arith
zeros_most (suc more) c d z = by (c * 10 ^ z % d == 0) (zeros_most more c d (suc z))
  where
    by : (b : Bool) → zeros_from more c d (suc z) ≤ suc z + more → (if b then z else zeros_from more c d (suc z)) ≤ z + suc more
    by true h = omega arith
    by false h = omega (arith, h)

pub zeros_few : (c d z k : ℕ) → zeros_left c d z ≡ k → z ≤ k
unfolding zeros_left
zeros_few c d z k e = subst (λ n. z ≤ n) e (zeros_least (68 - z) c d z)

pub zeros_limit : (c d : ℕ) → zeros_to_divide c d ≤ 68
unfolding zeros_to_divide
zeros_limit c d = zeros_most 68 c d 0

pub zeros_all : (c d z k : ℕ) → z ≡ 68 → zeros_left c d z ≡ k → 68 ≡ k
unfolding zeros_left
zeros_all c d z k same e = sym (ap (λ z. zeros_from (68 - z) c d z) same) ∙ e

-- 68 are enough
pub enough_zeros : (c d q r : ℕ) → 0 < d → d < 10 ^ 34 → q ≡ c * 10 ^ 68 / d → r ≡ c * 10 ^ 68 % d → 0 < r → 10 ^ 34 ≤ q
enough_zeros c d q r h hd eq er some = subst (λ n. 10 ^ 34 ≤ n) (sym eq) (le-div (10 ^ 34) (c * 10 ^ 68) d h (by c er))
  where
    by : (c : ℕ) → r ≡ c * 10 ^ 68 % d → 10 ^ 34 * d ≤ c * 10 ^ 68
    by zero e = let none : 0 * 10 ^ 68 % d ≡ 0 = omega arith in absurd (omega (arith, e, none, some))
    by (suc c) e = omega (arith, hd)

-- ---- the quotient

rounds_alike : (q r d i : ℕ) → 0 < d → r < d → (0 < r → 10 ^ 34 ≤ q) → (0 < r) ⊎ (r ≤ 0) → Agree (nearest (q * d + r) (d * 10 ^ i)) (nearest (q + addend r q) (1 * 10 ^ i))
rounds_alike q r d i h hr great (inr none) =
    let z : r ≡ 0 = omega arith in
    let whole : q * d + r ≡ q * d = omega arith in
    let m : q + addend r q ≡ q = omega (arith, addend_none r q z) in
    let one : 10 ^ i ≡ 1 * 10 ^ i = omega arith in
    inl (ap (λ n. nearest n (d * 10 ^ i)) whole ∙ ap (λ p. nearest (q * d) p) (mul_comm d (10 ^ i)) ∙ nearest_times q (10 ^ i) d (some_power i) h
    ∙ ap (λ p. nearest q p) one ∙ ap (λ n. nearest n (1 * 10 ^ i)) (sym m))
rounds_alike q r d zero h hr great (inl some) = inr (first, second)
  where
    first : 10 ^ 34 ≤ nearest (q * d + r) (d * 1)
    first =
        let g = great some in
        let step : 10 ^ 34 * d ≤ q * d = mul-le-mul_right d g in
        le_trans (le-div (10 ^ 34) (q * d + r) (d * 1) (omega arith) (omega (arith, step))) (nearest_least (q * d + r) (d * 1))

    second : 10 ^ 34 ≤ nearest (q + addend r q) (1 * 1)
    second = let g = great some in le_trans (le-div (10 ^ 34) (q + addend r q) (1 * 1) (lit< tt) (omega (arith, g))) (nearest_least (q + addend r q) (1 * 1))
rounds_alike q r d (suc i) h hr great (inl some) =
    let ten : 10 ^ suc i ≡ 10 * 10 ^ i = pow-suc 10 i ∙ mul_comm (10 ^ i) 10 in
    let one : 10 * 10 ^ i ≡ 1 * 10 ^ suc i = sym ten ∙ omega arith in
    inl (ap (λ p. nearest (q * d + r) (d * p)) ten
    ∙ nearest_close q d r (10 ^ i) (addend r q) h (some_power i) hr (addend_one r q) (λ z. addend_none r q z) (λ s f. addend_tie r q s f) (λ s f. addend_off r q s (omega (arith, f)))
    ∙ ap (λ p. nearest (q + addend r q) p) one)

quotient_is : (s : Bool) (q r d x : ℕ) → 0 < d → r < d → (0 < r → 10 ^ 34 ≤ q) → decimal_of s (sticky q r) x ≡ nearest_decimal s (q * d + r) d x
quotient_is s q r d x h hr great =
    ap (λ m. decimal_of s m x) (sticky_addend q r) ∙ agree_decimal s (q * d + r) d (q + addend r q) x h (λ i. rounds_alike q r d i h hr great (cases_lt 0 r))

-- with the zeros of the definition
with_all_zeros : (s : Bool) (c d q r x z k : ℕ) → 0 < d → q ≡ c * 10 ^ z / d → z ≤ k → k ≤ x → (0 < r → 10 ^ 34 ≤ q) → (r ≡ 0 → z ≡ k) → (0 < r) ⊎ (r ≤ 0)
    → nearest_decimal s (c * 10 ^ z) d (x - z) ≡ nearest_decimal s (c * 10 ^ k) d (x - k)
with_all_zeros s c d q r x z k h eq le room great none (inr nil) = let same = none (omega arith) in ap (λ z. nearest_decimal s (c * 10 ^ z) d (x - z)) same
with_all_zeros s c d q r x z k h eq le room great none (inl some) =
    let back : x - z ≡ x - k + (k - z) = omega arith in
    let whole : z + (k - z) ≡ k = omega arith in
    ap (λ y. nearest_decimal s (c * 10 ^ z) d y) back
    ∙ more_zeros s (c * 10 ^ z) d (x - k) (k - z) h digits
    ∙ ap (λ n. nearest_decimal s n d (x - k)) (mul_assoc c (10 ^ z) (10 ^ (k - z)) ∙ ap (λ p. c * p) (sym (pow-add 10 z (k - z)) ∙ ap (λ y. 10 ^ y) whole))
  where
    digits : 10 ^ 34 * d ≤ c * 10 ^ z
    digits =
        let g : 10 ^ 34 ≤ c * 10 ^ z / d = subst (λ n. 10 ^ 34 ≤ n) eq (great some) in
        let step : 10 ^ 34 * d ≤ c * 10 ^ z / d * d = mul-le-mul_right d g in
        let split = div-add-mod' (c * 10 ^ z) d in
        omega (arith, step, split)

pub quotient_of : (s : Bool) (c d q r x z m : ℕ) → 0 < d → q ≡ c * 10 ^ z / d → r ≡ c * 10 ^ z % d → z ≤ zeros_to_divide c d → 68 ≤ x → (0 < r → 10 ^ 34 ≤ q) → (r ≡ 0 → z ≡ zeros_to_divide c d) → m ≡ sticky q r
    → decimal_of s m (x - z) ≡ quotient s c d x
quotient_of s c d q r x z m h eq er le room great none em =
    ap (λ m. decimal_of s m (x - z)) em
    ∙ quotient_is s q r d (x - z) h (rest_small d r (c * 10 ^ z) h er) great
    ∙ ap (λ n. nearest_decimal s n d (x - z)) whole
    ∙ with_all_zeros s c d q r x z (zeros_to_divide c d) h eq le (let limit = zeros_limit c d in omega (arith, limit, room)) great none (cases_lt 0 r)
    ∙ ap (λ b. if b then infinity_times s c else nearest_decimal s (c * 10 ^ zeros_to_divide c d) d (x - zeros_to_divide c d)) (sym some)
  where
    some : (d == 0) ≡ false
    some = grind (arith, nat_tests)

    whole : q * d + r ≡ c * 10 ^ z
    whole = ap (λ q. q * d + r) eq ∙ ap (λ r. c * 10 ^ z / d * d + r) er ∙ div-add-mod' (c * 10 ^ z) d

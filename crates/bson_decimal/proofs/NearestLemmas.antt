-- No decimal is nearer.
use Rattle.std.proofs.Common.{◌≡◌, ℕ, zero, suc, ◌+◌, ◌-◌, ◌*◌, ◌/◌, ◌%◌, ◌^◌, ◌<◌, ◌≤◌, ◌⊎◌, ◌==◌, inl, inr, Bool, true, false, if◌then◌else◌, refl, sym, ap, ◌∙◌, subst, arith, lit<, mul_comm, mul_assoc, mod-lt, div-add-mod', mul-le-mul_right}
use Rattle.std.specs.Prelude.{nat_lt, nat_le}
use Rattle.std.specs.Cmp.{nat_cmp_is, ranks}
use Rattle.std.specs.Ordering.{MatchOrdering, nat_cmp, match_ordering}
use Rattle.std.specs.declared.cmp.Ordering.{Ordering}
use Rattle.std.specs.declared.cmp.Ordering.TheVariants.{Less, Equal, Greater}
use Rattle.std.proofs.Math.Nat.{mul-div_cancel, pow-le-pow_right}
use Rattle.std.proofs.lemmas.Nat.{mul-le, pow-add, le-div}
use Rattle.std.proofs.lemmas.Bool.{cases_lt}
use Rattle.std.proofs.lemmas.Bool.Decides.{nat_tests}
use Rattle.bson_decimal.specs.Arithmetic.{nearest, cut_from, fold_down, clamp, nearest_decimal, decimal_of, quotient, zeros_from, zeros_to_divide, infinity_times}
use Rattle.bson_decimal.specs.Nearest.{distance, offset, IsNearestDecimal, IsNearestMultiple}
use Rattle.bson_decimal.specs.declared.decimal.Decimal.{Decimal}
use Rattle.bson_decimal.specs.declared.decimal.Decimal.TheVariants.{NotANumber, Infinite, Finite}
use Rattle.bson_decimal.proofs.RoundLemmas.{even_power, nearest_least, some_power}
use Rattle.bson_decimal.proofs.CutLemmas.{Found, cut_found}
use Rattle.bson_decimal.proofs.QuotientLemmas.{zeros_limit}

-- ---- the nearest multiple

-- by the whole part a and the rest r
whole_or_next : (a r u : ℕ) (o : Ordering) → MatchOrdering o (2 * r < u) (2 * r ≡ u) (u < 2 * r)
    → ((a + match_ordering o 0 (a % 2) 1 ≡ a) × (2 * r ≤ u)) ⊎ ((a + match_ordering o 0 (a % 2) 1 ≡ a + 1) × (u ≤ 2 * r))
whole_or_next a r u Less h = inl (omega arith, omega (arith, h))
whole_or_next a r u Greater h = inr (omega arith, omega (arith, h))
whole_or_next a r u Equal h = by (cases_lt (a % 2) 1)
  where
    by : (a % 2 < 1) ⊎ (1 ≤ a % 2) → ((a + a % 2 ≡ a) × (2 * r ≤ u)) ⊎ ((a + a % 2 ≡ a + 1) × (u ≤ 2 * r))
    by (inl l) = inl (omega (arith, l), omega (arith, h))
    by (inr g) = inr (omega (arith, g), omega (arith, h))

nearest_is : (n u : ℕ) → ((nearest n u ≡ n / u) × (2 * (n % u) ≤ u)) ⊎ ((nearest n u ≡ n / u + 1) × (u ≤ 2 * (n % u)))
unfolding nearest
nearest_is n u = whole_or_next (n / u) (n % u) u (nat_cmp (2 * (n % u)) u) (ranks (2 * (n % u)) u)

-- of all multiples the nearest one is nearest
by_parts : (n u a r q j : ℕ) → a * u + r ≡ n → r < u → (((q ≡ a) × (2 * r ≤ u)) ⊎ ((q ≡ a + 1) × (u ≤ 2 * r))) → (j < a + 1) ⊎ (a + 1 ≤ j) → distance n (q * u) ≤ distance n (j * u)
by_parts n u a r q j e h (inl p) (inl l) =
    let step : j * u ≤ a * u = mul-le j u a u (omega (arith, l)) (omega arith) in
    let same : q * u ≡ a * u = ap (λ m. m * u) p.0 in
    omega (arith, e, step, same, h)
by_parts n u a r q j e h (inl p) (inr g) =
    let step : (a + 1) * u ≤ j * u = mul-le (a + 1) u j u g (omega arith) in
    let out : (a + 1) * u ≡ a * u + u = grind arith in
    let same : q * u ≡ a * u = ap (λ m. m * u) p.0 in
    let half = p.1 in
    omega (arith, e, step, out, same, half, h)
by_parts n u a r q j e h (inr p) (inl l) =
    let step : j * u ≤ a * u = mul-le j u a u (omega (arith, l)) (omega arith) in
    let out : (a + 1) * u ≡ a * u + u = grind arith in
    let same : q * u ≡ (a + 1) * u = ap (λ m. m * u) p.0 in
    let half = p.1 in
    omega (arith, e, step, out, same, half, h)
by_parts n u a r q j e h (inr p) (inr g) =
    let step : (a + 1) * u ≤ j * u = mul-le (a + 1) u j u g (omega arith) in
    let out : (a + 1) * u ≡ a * u + u = grind arith in
    let same : q * u ≡ (a + 1) * u = ap (λ m. m * u) p.0 in
    omega (arith, e, step, out, same, h)

multiples : (n u j : ℕ) → 0 < u → distance n (nearest n u * u) ≤ distance n (j * u)
multiples n u j h = by_parts n u (n / u) (n % u) (nearest n u) j (div-add-mod' n u) (mod-lt n h) (nearest_is n u) (cases_lt j (n / u + 1))

even_at_tie : (n u : ℕ) → 2 * (n % u) ≡ u → nearest n u % 2 ≡ 0
unfolding nearest
even_at_tie n u h =
    let half : Equal ≡ nat_cmp (2 * (n % u)) u = nat_cmp_is (2 * (n % u)) u Equal h in
    ap (λ o. (n / u + match_ordering o 0 (n / u % 2) 1) % 2) (sym half) ∙ omega arith

pub nearest_multiple : (n u : ℕ) → 0 < u → IsNearestMultiple n u (nearest n u)
nearest_multiple n u h = by (nearest_is n u) (div-add-mod' n u) (mod-lt n h)
  where
    by : ((nearest n u ≡ n / u) × (2 * (n % u) ≤ u)) ⊎ ((nearest n u ≡ n / u + 1) × (u ≤ 2 * (n % u))) → n / u * u + n % u ≡ n → n % u < u → IsNearestMultiple n u (nearest n u)
    by (inl p) e less =
        let same : nearest n u * u ≡ n / u * u = ap (λ m. m * u) p.0 in
        let half = p.1 in
        (omega (arith, e, same, half), λ tie. even_at_tie n u (omega (arith, tie, e, same, half)))
    by (inr p) e less =
        let same : nearest n u * u ≡ (n / u + 1) * u = ap (λ m. m * u) p.0 in
        let out : (n / u + 1) * u ≡ n / u * u + u = grind arith in
        let half = p.1 in
        (omega (arith, e, same, out, half, less), λ tie. even_at_tie n u (omega (arith, tie, e, same, out, half, less)))

-- and at most half of the unit away
half_below : (n u : ℕ) → 2 * (nearest n u * u) ≤ 2 * n + u
half_below n u = by (nearest_is n u) (div-add-mod' n u)
  where
    by : ((nearest n u ≡ n / u) × (2 * (n % u) ≤ u)) ⊎ ((nearest n u ≡ n / u + 1) × (u ≤ 2 * (n % u))) → n / u * u + n % u ≡ n → 2 * (nearest n u * u) ≤ 2 * n + u
    by (inl p) e = let same : nearest n u * u ≡ n / u * u = ap (λ m. m * u) p.0 in omega (arith, e, same)
    by (inr p) e =
        let same : nearest n u * u ≡ (n / u + 1) * u = ap (λ m. m * u) p.0 in
        let out : (n / u + 1) * u ≡ n / u * u + u = grind arith in
        let half = p.1 in
        omega (arith, e, same, out, half)

distance_times : (a b p : ℕ) → distance (a * p) (b * p) ≡ distance a b * p
distance_times a b p = by (cases_lt a b)
  where
    apart_by : (a b p : ℕ) → a ≤ b → distance (a * p) (b * p) ≡ distance a b * p
    apart_by a b p le =
        let back : b ≡ a + (b - a) = omega arith in
        let gap : distance a b ≡ b - a = omega arith in
        let out : (a + (b - a)) * p ≡ a * p + (b - a) * p = grind arith in
        let more : b * p ≡ a * p + (b - a) * p = ap (λ m. m * p) back ∙ out in
        let same : distance a b * p ≡ (b - a) * p = ap (λ m. m * p) gap in
        omega (arith, more, same)

    turned : (a b : ℕ) → distance a b ≡ distance b a
    turned a b = omega arith

    by : (a < b) ⊎ (b ≤ a) → distance (a * p) (b * p) ≡ distance a b * p
    by (inl lt) = apart_by a b p (omega arith)
    by (inr le) = turned (a * p) (b * p) ∙ apart_by b a p le ∙ ap (λ m. m * p) (turned b a)

-- ---- beside decimals with more digits behind

-- those whose last digit counts less, w, are too small
too_small : (n w q c : ℕ) → 0 < w → 10 ^ 34 ≤ nearest n w → q ≡ nearest n (w * 10) → c ≤ (10 ^ 34 - 1) * w → (distance n (q * (w * 10)) ≤ n - c) × (c ≤ n)
too_small n w q c h great eq le =
    let step : 10 ^ 34 * w ≤ nearest n w * w = mul-le (10 ^ 34) w (nearest n w) w great (omega arith) in
    let half = half_below n w in
    let near = multiples n (w * 10) (10 ^ 33) (omega arith) in
    let whole : 10 ^ 33 * (w * 10) ≡ 10 ^ 34 * w = omega arith in
    let same : q * (w * 10) ≡ nearest n (w * 10) * (w * 10) = ap (λ m. m * (w * 10)) eq in
    (omega (arith, step, half, near, whole, same, le), omega (arith, step, half, le))

-- the unit of the result
unit_is : (d x k : ℕ) → d * 10 ^ k * 10 ^ x ≡ d * 10 ^ (x + k)
unit_is d x k = mul_assoc d (10 ^ k) (10 ^ x) ∙ ap (λ p. d * p) (mul_comm (10 ^ k) (10 ^ x) ∙ sym (pow-add 10 x k))

scaled : (n d x k q : ℕ) → distance (n * 10 ^ x) (q * (d * 10 ^ (x + k))) ≡ distance n (q * (d * 10 ^ k)) * 10 ^ x
scaled n d x k q = ap (λ m. distance (n * 10 ^ x) m) (ap (λ u. q * u) (sym (unit_is d x k)) ∙ sym (mul_assoc q (d * 10 ^ k) (10 ^ x))) ∙ distance_times n (q * (d * 10 ^ k)) (10 ^ x)

-- exact, or with digits enough
abbrev Enough : ℕ → ℕ → Type 0
Enough n d = (n % d ≡ 0) ⊎ (10 ^ 34 * d ≤ n)

some_unit : (d k : ℕ) → 0 < d → 0 < d * 10 ^ k
some_unit d k h = let one = some_power k in let step : 1 * 10 ^ k ≤ d * 10 ^ k = mul-le-mul_right (10 ^ k) h in omega (arith, one, step)

-- a decimal whose last digit counts at least as much
coarse : (n d x k b f : ℕ) → 0 < d → x + k ≤ f → distance (n * 10 ^ x) (nearest n (d * 10 ^ k) * (d * 10 ^ (x + k))) ≤ distance (n * 10 ^ x) (b * (d * 10 ^ f))
coarse n d x k b f h le = subst (λ m. distance (n * 10 ^ x) (nearest n (d * 10 ^ k) * (d * 10 ^ (x + k))) ≤ distance (n * 10 ^ x) m) unit
    (subst (λ m. m ≤ distance (n * 10 ^ x) (b * 10 ^ (f - (x + k)) * (d * 10 ^ (x + k)))) (sym (scaled n d x k (nearest n (d * 10 ^ k))))
    (subst (λ m. distance n (nearest n (d * 10 ^ k) * (d * 10 ^ k)) * 10 ^ x ≤ m) (sym (scaled n d x k (b * 10 ^ (f - (x + k)))))
    (mul-le-mul_right (10 ^ x) (multiples n (d * 10 ^ k) (b * 10 ^ (f - (x + k))) (some_unit d k h)))))
  where
    turn : (b p d q : ℕ) → b * p * (d * q) ≡ b * (d * (q * p))
    turn b p d q = grind arith

    whole : x + k + (f - (x + k)) ≡ f
    whole = omega arith

    unit : b * 10 ^ (f - (x + k)) * (d * 10 ^ (x + k)) ≡ b * (d * 10 ^ f)
    unit = turn b (10 ^ (f - (x + k))) d (10 ^ (x + k)) ∙ ap (λ p. b * (d * p)) (sym (pow-add 10 (x + k) (f - (x + k))) ∙ ap (λ e. 10 ^ e) whole)

-- one whose last digit counts less
fine_less : (d x j b f : ℕ) → b < 10 ^ 34 → f ≤ x + j → b * (d * 10 ^ f) ≤ (10 ^ 34 - 1) * (d * 10 ^ (x + j))
fine_less d x j b f hb le =
    let up : 10 ^ f ≤ 10 ^ (x + j) = pow-le-pow_right (lit< tt) le in
    let step : d * 10 ^ f ≤ d * 10 ^ (x + j) = mul-le d (10 ^ f) d (10 ^ (x + j)) (omega arith) up in
    mul-le b (d * 10 ^ f) (10 ^ 34 - 1) (d * 10 ^ (x + j)) (omega (arith, hb)) step

fine : (n d x j b f : ℕ) → 0 < d → 10 ^ 34 ≤ nearest n (d * 10 ^ j) → b < 10 ^ 34 → f ≤ x + j
    → distance (n * 10 ^ x) (nearest n (d * 10 ^ (j + 1)) * (d * 10 ^ (x + (j + 1)))) ≤ distance (n * 10 ^ x) (b * (d * 10 ^ f))
fine n d x j b f h great hb le = subst (λ m. m ≤ distance (n * 10 ^ x) (b * (d * 10 ^ f))) (sym (scaled n d x (j + 1) (nearest n (d * 10 ^ (j + 1))))) (by small)
  where
    ten : d * 10 ^ (j + 1) ≡ d * 10 ^ j * 10
    ten = ap (λ p. d * p) (pow-add 10 j 1) ∙ sym (mul_assoc d (10 ^ j) 10)

    small : (distance n (nearest n (d * 10 ^ (j + 1)) * (d * 10 ^ (j + 1))) ≤ n - (10 ^ 34 - 1) * (d * 10 ^ j)) × ((10 ^ 34 - 1) * (d * 10 ^ j) ≤ n)
    small = subst (λ u. (distance n (nearest n (d * 10 ^ (j + 1)) * u) ≤ n - (10 ^ 34 - 1) * (d * 10 ^ j)) × ((10 ^ 34 - 1) * (d * 10 ^ j) ≤ n)) (sym ten)
        (too_small n (d * 10 ^ j) (nearest n (d * 10 ^ (j + 1))) ((10 ^ 34 - 1) * (d * 10 ^ j)) (some_unit d j h) great (ap (λ u. nearest n u) ten) (omega arith))

    less : b * (d * 10 ^ f) ≤ (10 ^ 34 - 1) * (d * 10 ^ j) * 10 ^ x
    less =
        let most = fine_less d x j b f hb le in
        let turned : (10 ^ 34 - 1) * (d * 10 ^ (x + j)) ≡ (10 ^ 34 - 1) * (d * 10 ^ j) * 10 ^ x = ap (λ u. (10 ^ 34 - 1) * u) (sym (unit_is d x j)) ∙ sym (mul_assoc (10 ^ 34 - 1) (d * 10 ^ j) (10 ^ x)) in
        omega (arith, most, turned)

    by : (distance n (nearest n (d * 10 ^ (j + 1)) * (d * 10 ^ (j + 1))) ≤ n - (10 ^ 34 - 1) * (d * 10 ^ j)) × ((10 ^ 34 - 1) * (d * 10 ^ j) ≤ n)
        → distance n (nearest n (d * 10 ^ (j + 1)) * (d * 10 ^ (j + 1))) * 10 ^ x ≤ distance (n * 10 ^ x) (b * (d * 10 ^ f))
    by (near, room) =
        let g = (10 ^ 34 - 1) * (d * 10 ^ j) in
        let first : distance n (nearest n (d * 10 ^ (j + 1)) * (d * 10 ^ (j + 1))) * 10 ^ x ≤ (n - (10 ^ 34 - 1) * (d * 10 ^ j)) * 10 ^ x = mul-le-mul_right (10 ^ x) near in
        let back : n - (10 ^ 34 - 1) * (d * 10 ^ j) + (10 ^ 34 - 1) * (d * 10 ^ j) ≡ n = omega (arith, room) in
        let out : (n - (10 ^ 34 - 1) * (d * 10 ^ j) + (10 ^ 34 - 1) * (d * 10 ^ j)) * 10 ^ x ≡ (n - (10 ^ 34 - 1) * (d * 10 ^ j)) * 10 ^ x + (10 ^ 34 - 1) * (d * 10 ^ j) * 10 ^ x = spread (n - (10 ^ 34 - 1) * (d * 10 ^ j)) ((10 ^ 34 - 1) * (d * 10 ^ j)) (10 ^ x) in
        let same : (n - (10 ^ 34 - 1) * (d * 10 ^ j) + (10 ^ 34 - 1) * (d * 10 ^ j)) * 10 ^ x ≡ n * 10 ^ x = ap (λ m. m * 10 ^ x) back in
        let l = less in
        omega (arith, first, out, same, l)
      where
        spread : (a b p : ℕ) → (a + b) * p ≡ a * p + b * p
        spread a b p = grind arith

-- ---- the decimal

offset_is : offset ≡ 12352
unfolding offset
offset_is = refl

abbrev Cut : ℕ → ℕ → ℕ → ℕ → Type 0
Cut n d x k = Found (λ i. nearest n (d * 10 ^ i)) (12352 - x) k

exact_multiple : (n u : ℕ) → 0 < u → n % u ≡ 0 → nearest n u * u ≡ n
exact_multiple n u h none = by (nearest_is n u) (div-add-mod' n u)
  where
    by : ((nearest n u ≡ n / u) × (2 * (n % u) ≤ u)) ⊎ ((nearest n u ≡ n / u + 1) × (u ≤ 2 * (n % u))) → n / u * u + n % u ≡ n → nearest n u * u ≡ n
    by (inl p) e = let same : nearest n u * u ≡ n / u * u = ap (λ m. m * u) p.0 in omega (arith, e, same, none)
    by (inr p) e = let half = p.1 in absurd (omega (arith, half, none, h))

-- nothing is cut off, so it is exact
exact_at : (n d k : ℕ) → 0 < d → Enough n d → k ≡ 0 → nearest n (d * 10 ^ k) < 10 ^ 34 → nearest n (d * 10 ^ k) * (d * 10 ^ k) ≡ n
exact_at n d k h enough none less = by enough
  where
    unit : d * 10 ^ k ≡ d
    unit = ap (λ k. d * 10 ^ k) none ∙ omega arith

    by : Enough n d → nearest n (d * 10 ^ k) * (d * 10 ^ k) ≡ n
    by (inl e) = exact_multiple n (d * 10 ^ k) (some_unit d k h) (ap (λ u. n % u) unit ∙ e)
    by (inr g) =
        let step : 10 ^ 34 ≤ n / (d * 10 ^ k) = le-div (10 ^ 34) n (d * 10 ^ k) (some_unit d k h) (subst (λ u. 10 ^ 34 * u ≤ n) (sym unit) g) in
        let least = nearest_least n (d * 10 ^ k) in
        absurd (omega (arith, step, least, less))

other : (n d x k b f : ℕ) → 0 < d → Enough n d → Cut n d x k → b < 10 ^ 34 → 12352 ≤ f
    → distance (n * 10 ^ x) (nearest n (d * 10 ^ k) * (d * 10 ^ (x + k))) ≤ distance (n * 10 ^ x) (b * (d * 10 ^ f))
other n d x k b f h enough cut hb hf = by (cases_lt f (x + k)) (cases_lt (12352 - x) k)
  where
    by : (f < x + k) ⊎ (x + k ≤ f) → (12352 - x < k) ⊎ (k ≤ 12352 - x) → distance (n * 10 ^ x) (nearest n (d * 10 ^ k) * (d * 10 ^ (x + k))) ≤ distance (n * 10 ^ x) (b * (d * 10 ^ f))
    by (inr ge) p = coarse n d x k b f h ge
    by (inl lt) (inl more) =
        let back : k - 1 + 1 ≡ k = omega arith in
        let great = cut.2 (k - 1) (omega (arith, more)) (omega (arith, more)) in
        subst (λ k. distance (n * 10 ^ x) (nearest n (d * 10 ^ k) * (d * 10 ^ (x + k))) ≤ distance (n * 10 ^ x) (b * (d * 10 ^ f))) back (fine n d x (k - 1) b f h great hb (omega (arith, lt, more)))
    by (inl lt) (inr le) =
        let from = cut.1 in
        let less = cut.0 in
        let none : k ≡ 0 = omega (arith, from, lt, le, hf) in
        let same = exact_at n d k h enough none less in
        let zero_apart : distance n (nearest n (d * 10 ^ k) * (d * 10 ^ k)) ≡ 0 = omega (arith, same) in
        let gone : distance (n * 10 ^ x) (nearest n (d * 10 ^ k) * (d * 10 ^ (x + k))) ≡ 0 * 10 ^ x = scaled n d x k (nearest n (d * 10 ^ k)) ∙ ap (λ m. m * 10 ^ x) zero_apart in
        omega (arith, gone)

-- ---- equally near

cancel : (a b m : ℕ) → 0 < m → a * m ≡ b * m → a ≡ b
cancel a b m h e = sym (mul-div_cancel a h) ∙ ap (λ n. n / m) e ∙ mul-div_cancel b h

-- two multiples that are equally near are one, or the nearest one is even
tied_parts : (n u a r q j : ℕ) → 0 < u → a * u + r ≡ n → r < u → (2 * r ≡ u → q % 2 ≡ 0) → (((q ≡ a) × (2 * r ≤ u)) ⊎ ((q ≡ a + 1) × (u ≤ 2 * r)))
    → distance n (j * u) ≡ distance n (q * u) → (j < a) ⊎ (a ≤ j) → (a + 1 < j) ⊎ (j ≤ a + 1) → (j < a + 1) ⊎ (a + 1 ≤ j) → (j ≡ q) ⊎ (q % 2 ≡ 0)
tied_parts n u a r q j hu e h tie (inl p) t (inl l) x y =
    let step : (j + 1) * u ≤ a * u = mul-le (j + 1) u a u (omega (arith, l)) (omega arith) in
    let out : (j + 1) * u ≡ j * u + u = grind arith in
    let same : q * u ≡ a * u = ap (λ m. m * u) p.0 in
    absurd (omega (arith, e, step, out, same, h, t, hu))
tied_parts n u a r q j hu e h tie (inl p) t (inr g) (inl l) y =
    let step : (a + 1 + 1) * u ≤ j * u = mul-le (a + 1 + 1) u j u (omega (arith, l)) (omega arith) in
    let out : (a + 1 + 1) * u ≡ a * u + u + u = grind arith in
    let same : q * u ≡ a * u = ap (λ m. m * u) p.0 in
    let half = p.1 in
    absurd (omega (arith, e, step, out, same, half, h, t, hu))
tied_parts n u a r q j hu e h tie (inl p) t (inr g) (inr m) (inl l) = let q_is = p.0 in inl (omega (arith, g, l, q_is))
tied_parts n u a r q j hu e h tie (inl p) t (inr g) (inr m) (inr k) =
    let j_is : j ≡ a + 1 = omega (arith, m, k) in
    let here : j * u ≡ (a + 1) * u = ap (λ m. m * u) j_is in
    let out : (a + 1) * u ≡ a * u + u = grind arith in
    let same : q * u ≡ a * u = ap (λ m. m * u) p.0 in
    inr (tie (omega (arith, e, here, out, same, h, t)))
tied_parts n u a r q j hu e h tie (inr p) t (inl l) x y =
    let step : (j + 1) * u ≤ a * u = mul-le (j + 1) u a u (omega (arith, l)) (omega arith) in
    let out : (j + 1) * u ≡ j * u + u = grind arith in
    let next : (a + 1) * u ≡ a * u + u = grind arith in
    let same : q * u ≡ (a + 1) * u = ap (λ m. m * u) p.0 in
    let half = p.1 in
    absurd (omega (arith, e, step, out, next, same, half, h, t, hu))
tied_parts n u a r q j hu e h tie (inr p) t (inr g) (inl l) y =
    let step : (a + 1 + 1) * u ≤ j * u = mul-le (a + 1 + 1) u j u (omega (arith, l)) (omega arith) in
    let out : (a + 1 + 1) * u ≡ a * u + u + u = grind arith in
    let next : (a + 1) * u ≡ a * u + u = grind arith in
    let same : q * u ≡ (a + 1) * u = ap (λ m. m * u) p.0 in
    absurd (omega (arith, e, step, out, next, same, h, t, hu))
tied_parts n u a r q j hu e h tie (inr p) t (inr g) (inr m) (inl l) =
    let j_is : j ≡ a = omega (arith, g, l) in
    let here : j * u ≡ a * u = ap (λ m. m * u) j_is in
    let next : (a + 1) * u ≡ a * u + u = grind arith in
    let same : q * u ≡ (a + 1) * u = ap (λ m. m * u) p.0 in
    inr (tie (omega (arith, e, here, next, same, h, t)))
tied_parts n u a r q j hu e h tie (inr p) t (inr g) (inr m) (inr k) = let q_is = p.0 in inl (omega (arith, m, k, q_is))

tied : (n u j : ℕ) → 0 < u → distance n (j * u) ≡ distance n (nearest n u * u) → (j ≡ nearest n u) ⊎ (nearest n u % 2 ≡ 0)
tied n u j h t = tied_parts n u (n / u) (n % u) (nearest n u) j h (div-add-mod' n u) (mod-lt n h) (even_at_tie n u) (nearest_is n u) t (cases_lt j (n / u)) (cases_lt (n / u + 1) j) (cases_lt j (n / u + 1))

tied_coarse : (n d x k b f : ℕ) → 0 < d → x + k ≤ f → distance (n * 10 ^ x) (b * (d * 10 ^ f)) ≡ distance (n * 10 ^ x) (nearest n (d * 10 ^ k) * (d * 10 ^ (x + k)))
    → (b * 10 ^ f ≡ nearest n (d * 10 ^ k) * 10 ^ (x + k)) ⊎ (nearest n (d * 10 ^ k) % 2 ≡ 0)
tied_coarse n d x k b f h le t = by (tied n (d * 10 ^ k) (b * 10 ^ (f - (x + k))) (some_unit d k h) (cancel _ _ (10 ^ x) (some_power x) level))
  where
    turn : (b p d q : ℕ) → b * p * (d * q) ≡ b * (d * (q * p))
    turn b p d q = grind arith

    moved : (b p q : ℕ) → b * (q * p) ≡ b * p * q
    moved b p q = grind arith

    whole : x + k + (f - (x + k)) ≡ f
    whole = omega (arith, le)

    power : 10 ^ f ≡ 10 ^ (x + k) * 10 ^ (f - (x + k))
    power = ap (λ e. 10 ^ e) (sym whole) ∙ pow-add 10 (x + k) (f - (x + k))

    unit : b * (d * 10 ^ f) ≡ b * 10 ^ (f - (x + k)) * (d * 10 ^ (x + k))
    unit = ap (λ p. b * (d * p)) power ∙ sym (turn b (10 ^ (f - (x + k))) d (10 ^ (x + k)))

    level : distance n (b * 10 ^ (f - (x + k)) * (d * 10 ^ k)) * 10 ^ x ≡ distance n (nearest n (d * 10 ^ k) * (d * 10 ^ k)) * 10 ^ x
    level = sym (ap (λ m. distance (n * 10 ^ x) m) unit ∙ scaled n d x k (b * 10 ^ (f - (x + k)))) ∙ t ∙ scaled n d x k (nearest n (d * 10 ^ k))

    by : (b * 10 ^ (f - (x + k)) ≡ nearest n (d * 10 ^ k)) ⊎ (nearest n (d * 10 ^ k) % 2 ≡ 0) → (b * 10 ^ f ≡ nearest n (d * 10 ^ k) * 10 ^ (x + k)) ⊎ (nearest n (d * 10 ^ k) % 2 ≡ 0)
    by (inl e) = inl (ap (λ p. b * p) power ∙ moved b (10 ^ (f - (x + k))) (10 ^ (x + k)) ∙ ap (λ m. m * 10 ^ (x + k)) e)
    by (inr e) = inr e

-- below 10^34 of the finer units it is 10^33
round_up : (n w q : ℕ) → 0 < w → 10 ^ 34 ≤ nearest n w → q ≡ nearest n (w * 10) → n < 10 ^ 34 * w → q ≡ 10 ^ 33
round_up n w q h great eq less = by (cases_lt q (10 ^ 33)) (cases_lt (10 ^ 33) q)
  where
    step : 10 ^ 34 * w ≤ nearest n w * w
    step = mul-le (10 ^ 34) w (nearest n w) w great (omega arith)

    near : distance n (q * (w * 10)) ≤ distance n (10 ^ 33 * (w * 10))
    near = subst (λ q. distance n (q * (w * 10)) ≤ distance n (10 ^ 33 * (w * 10))) (sym eq) (multiples n (w * 10) (10 ^ 33) (omega arith))

    by : (q < 10 ^ 33) ⊎ (10 ^ 33 ≤ q) → (10 ^ 33 < q) ⊎ (q ≤ 10 ^ 33) → q ≡ 10 ^ 33
    by (inl lt) p =
        let low : (q + 1) * (w * 10) ≤ 10 ^ 33 * (w * 10) = mul-le (q + 1) (w * 10) (10 ^ 33) (w * 10) (omega (arith, lt)) (omega arith) in
        let out : (q + 1) * (w * 10) ≡ q * (w * 10) + w * 10 = grind arith in
        let s = step in
        let half = half_below n w in
        let close = near in
        absurd (omega (arith, low, out, s, half, close, less, h))
    by (inr ge) (inl gt) =
        let high : (10 ^ 33 + 1) * (w * 10) ≤ q * (w * 10) = mul-le (10 ^ 33 + 1) (w * 10) q (w * 10) (omega (arith, gt)) (omega arith) in
        let s = step in
        let half = half_below n w in
        let close = near in
        absurd (omega (arith, high, s, half, close, less, h))
    by (inr ge) (inr le) = omega (arith, ge, le)

apart_far : (n w p u c near : ℕ) → 0 < u → w * p ≡ u → 10 ^ 34 * w ≤ n → near ≤ n - 10 ^ 34 * w → c ≤ (10 ^ 34 - 1) * u → distance (n * p) c ≡ near * p → ⊥
apart_far n w p u c near h e room le small t =
    let step : near * p ≤ (n - 10 ^ 34 * w) * p = mul-le-mul_right p le in
    let back : n - 10 ^ 34 * w + 10 ^ 34 * w ≡ n = omega (arith, room) in
    let out : (n - 10 ^ 34 * w + 10 ^ 34 * w) * p ≡ (n - 10 ^ 34 * w) * p + 10 ^ 34 * w * p = spread (n - 10 ^ 34 * w) (10 ^ 34 * w) p in
    let same : (n - 10 ^ 34 * w + 10 ^ 34 * w) * p ≡ n * p = ap (λ m. m * p) back in
    let unit : 10 ^ 34 * w * p ≡ 10 ^ 34 * u = mul_assoc (10 ^ 34) w p ∙ ap (λ u. 10 ^ 34 * u) e in
    omega (arith, step, out, same, unit, small, t, h)
  where
    spread : (a b p : ℕ) → (a + b) * p ≡ a * p + b * p
    spread a b p = grind arith

tied_fine : (n d x j b f : ℕ) → 0 < d → 10 ^ 34 ≤ nearest n (d * 10 ^ j) → b < 10 ^ 34 → f ≤ x + j
    → distance (n * 10 ^ x) (b * (d * 10 ^ f)) ≡ distance (n * 10 ^ x) (nearest n (d * 10 ^ (j + 1)) * (d * 10 ^ (x + (j + 1)))) → nearest n (d * 10 ^ (j + 1)) % 2 ≡ 0
tied_fine n d x j b f h great hb le t = by (cases_lt n (10 ^ 34 * (d * 10 ^ j)))
  where
    ten : d * 10 ^ (j + 1) ≡ d * 10 ^ j * 10
    ten = ap (λ p. d * p) (pow-add 10 j 1) ∙ sym (mul_assoc d (10 ^ j) 10)

    by : (n < 10 ^ 34 * (d * 10 ^ j)) ⊎ (10 ^ 34 * (d * 10 ^ j) ≤ n) → nearest n (d * 10 ^ (j + 1)) % 2 ≡ 0
    by (inl less) = ap (λ q. q % 2) (round_up n (d * 10 ^ j) (nearest n (d * 10 ^ (j + 1))) (some_unit d j h) great (ap (λ u. nearest n u) ten) less)
    by (inr room) =
        let multiple = multiples n (d * 10 ^ (j + 1)) (10 ^ 33) (some_unit d (j + 1) h) in
        let whole : 10 ^ 33 * (d * 10 ^ (j + 1)) ≡ 10 ^ 34 * (d * 10 ^ j) = ap (λ u. 10 ^ 33 * u) ten ∙ omega arith in
        let near : distance n (nearest n (d * 10 ^ (j + 1)) * (d * 10 ^ (j + 1))) ≤ n - 10 ^ 34 * (d * 10 ^ j) = omega (arith, multiple, whole, room) in
        absurd (apart_far n (d * 10 ^ j) (10 ^ x) (d * 10 ^ (x + j)) (b * (d * 10 ^ f)) (distance n (nearest n (d * 10 ^ (j + 1)) * (d * 10 ^ (j + 1))))
        (some_unit d (x + j) h) (unit_is d x j) room near (fine_less d x j b f hb le) (t ∙ scaled n d x (j + 1) (nearest n (d * 10 ^ (j + 1)))))

level : (n d x k b f : ℕ) → 0 < d → Enough n d → Cut n d x k → b < 10 ^ 34 → 12352 ≤ f
    → distance (n * 10 ^ x) (b * (d * 10 ^ f)) ≡ distance (n * 10 ^ x) (nearest n (d * 10 ^ k) * (d * 10 ^ (x + k)))
    → (b * 10 ^ f ≡ nearest n (d * 10 ^ k) * 10 ^ (x + k)) ⊎ (nearest n (d * 10 ^ k) % 2 ≡ 0)
level n d x k b f h enough cut hb hf t = by (cases_lt f (x + k)) (cases_lt (12352 - x) k)
  where
    turn : (b d p : ℕ) → b * (d * p) ≡ b * p * d
    turn b d p = grind arith

    by : (f < x + k) ⊎ (x + k ≤ f) → (12352 - x < k) ⊎ (k ≤ 12352 - x) → (b * 10 ^ f ≡ nearest n (d * 10 ^ k) * 10 ^ (x + k)) ⊎ (nearest n (d * 10 ^ k) % 2 ≡ 0)
    by (inr ge) p = tied_coarse n d x k b f h ge t
    by (inl lt) (inl more) =
        let back : k - 1 + 1 ≡ k = omega arith in
        let great = cut.2 (k - 1) (omega (arith, more)) (omega (arith, more)) in
        inr (subst (λ k. distance (n * 10 ^ x) (b * (d * 10 ^ f)) ≡ distance (n * 10 ^ x) (nearest n (d * 10 ^ k) * (d * 10 ^ (x + k))) → nearest n (d * 10 ^ k) % 2 ≡ 0) back
        (λ t. tied_fine n d x (k - 1) b f h great hb (omega (arith, lt, more)) t) t)
    by (inl lt) (inr le) =
        let from = cut.1 in
        let less = cut.0 in
        let none : k ≡ 0 = omega (arith, from, lt, le, hf) in
        let same = exact_at n d k h enough none less in
        let zero_apart : distance n (nearest n (d * 10 ^ k) * (d * 10 ^ k)) ≡ 0 = omega (arith, same) in
        let gone : distance (n * 10 ^ x) (nearest n (d * 10 ^ k) * (d * 10 ^ (x + k))) ≡ 0 * 10 ^ x = scaled n d x k (nearest n (d * 10 ^ k)) ∙ ap (λ m. m * 10 ^ x) zero_apart in
        let equal : b * (d * 10 ^ f) ≡ nearest n (d * 10 ^ k) * (d * 10 ^ (x + k)) = omega (arith, gone, t) in
        inl (cancel (b * 10 ^ f) (nearest n (d * 10 ^ k) * 10 ^ (x + k)) d h (sym (turn b d (10 ^ f)) ∙ equal ∙ turn (nearest n (d * 10 ^ k)) d (10 ^ (x + k))))

-- beyond the greatest one
beyond : (n d x k t : ℕ) → 0 < d → Enough n d → Cut n d x k → t ≡ 24639 → t < x + k → 10 ^ 34 ≤ nearest n (d * 10 ^ k) * 10 ^ (x + k - t) → (2 * 10 ^ 34 - 1) * (d * 10 ^ t) ≤ 2 * (n * 10 ^ x)
beyond n d x k t h enough cut et lt great = by (cases_lt (12352 - x) k)
  where
    turn : (c w p : ℕ) → c * (w * p) ≡ c * w * p
    turn c w p = grind arith

    spread : (q p d t : ℕ) → q * p * (d * t) ≡ q * (d * (t * p))
    spread q p d t = grind arith

    by : (12352 - x < k) ⊎ (k ≤ 12352 - x) → (2 * 10 ^ 34 - 1) * (d * 10 ^ t) ≤ 2 * (n * 10 ^ x)
    by (inl more) =
        let over = cut.2 (k - 1) (omega (arith, more)) (omega (arith, more)) in
        let step : 10 ^ 34 * (d * 10 ^ (k - 1)) ≤ nearest n (d * 10 ^ (k - 1)) * (d * 10 ^ (k - 1)) = mul-le (10 ^ 34) (d * 10 ^ (k - 1)) (nearest n (d * 10 ^ (k - 1))) (d * 10 ^ (k - 1)) over (omega arith) in
        let half = half_below n (d * 10 ^ (k - 1)) in
        let most : (2 * 10 ^ 34 - 1) * (d * 10 ^ (k - 1)) ≤ 2 * n = omega (arith, step, half) in
        let times : (2 * 10 ^ 34 - 1) * (d * 10 ^ (k - 1)) * 10 ^ x ≤ 2 * n * 10 ^ x = mul-le-mul_right (10 ^ x) most in
        let same : (2 * 10 ^ 34 - 1) * (d * 10 ^ (k - 1)) * 10 ^ x ≡ (2 * 10 ^ 34 - 1) * (d * 10 ^ (x + (k - 1))) = mul_assoc (2 * 10 ^ 34 - 1) (d * 10 ^ (k - 1)) (10 ^ x) ∙ ap (λ u. (2 * 10 ^ 34 - 1) * u) (unit_is d x (k - 1)) in
        let up : 10 ^ t ≤ 10 ^ (x + (k - 1)) = pow-le-pow_right (lit< tt) (omega (arith, lt, more)) in
        let wide : d * 10 ^ t ≤ d * 10 ^ (x + (k - 1)) = mul-le d (10 ^ t) d (10 ^ (x + (k - 1))) (omega arith) up in
        let twice : 2 * n * 10 ^ x ≡ 2 * (n * 10 ^ x) = mul_assoc 2 n (10 ^ x) in
        omega (arith, times, same, wide, twice)
    by (inr le) =
        let from = cut.1 in
        let less = cut.0 in
        let none : k ≡ 0 = omega (arith, from, lt, le, et) in
        let same = exact_at n d k h enough none less in
        let whole : n * 10 ^ x ≡ nearest n (d * 10 ^ k) * (d * 10 ^ (x + k)) = ap (λ m. m * 10 ^ x) (sym same) ∙ mul_assoc (nearest n (d * 10 ^ k)) (d * 10 ^ k) (10 ^ x) ∙ ap (λ u. nearest n (d * 10 ^ k) * u) (unit_is d x k) in
        let sum : t + (x + k - t) ≡ x + k = omega (arith, lt) in
        let power : 10 ^ t * 10 ^ (x + k - t) ≡ 10 ^ (x + k) = sym (pow-add 10 t (x + k - t)) ∙ ap (λ e. 10 ^ e) sum in
        let moved : nearest n (d * 10 ^ k) * 10 ^ (x + k - t) * (d * 10 ^ t) ≡ nearest n (d * 10 ^ k) * (d * 10 ^ (x + k)) = spread (nearest n (d * 10 ^ k)) (10 ^ (x + k - t)) d (10 ^ t) ∙ ap (λ p. nearest n (d * 10 ^ k) * (d * p)) power in
        let step : 10 ^ 34 * (d * 10 ^ t) ≤ nearest n (d * 10 ^ k) * 10 ^ (x + k - t) * (d * 10 ^ t) = mul-le-mul_right (d * 10 ^ t) great in
        omega (arith, whole, moved, step)

clamped : (s : Bool) (n d x k : ℕ) → 0 < d → Enough n d → Cut n d x k → IsNearestDecimal n d x (clamp s (nearest n (d * 10 ^ k)) (x + k - 12352))
clamped s n d x k h enough cut = by (nat_le (x + k - 12352) 12287) refl
  where
    turn : (q p d t : ℕ) → q * (d * (t * p)) ≡ q * p * (d * t)
    turn q p d t = grind arith

    unclamped : x + k ≡ x + k - 12352 + offset
    unclamped = let o = offset_is in let from = cut.1 in omega (arith, o, from)

    folded : 12287 < x + k - 12352 → nearest n (d * 10 ^ k) * (d * 10 ^ (x + k)) ≡ nearest n (d * 10 ^ k) * 10 ^ (x + k - 12352 - 12287) * (d * 10 ^ (12287 + offset))
    folded lt =
        let o = offset_is in
        let sum : x + k ≡ 12287 + offset + (x + k - 12352 - 12287) = omega (arith, o, lt) in
        ap (λ p. nearest n (d * 10 ^ k) * (d * p)) (ap (λ e. 10 ^ e) sum ∙ pow-add 10 (12287 + offset) (x + k - 12352 - 12287))
        ∙ turn (nearest n (d * 10 ^ k)) (10 ^ (x + k - 12352 - 12287)) d (10 ^ (12287 + offset))

    even_times : (q i : ℕ) → 0 < i → q * 10 ^ i % 2 ≡ 0
    even_times q i h =
        let half = even_power i h in
        let out : q * (2 * (5 * 10 ^ (i - 1))) ≡ 2 * (q * (5 * 10 ^ (i - 1))) = grind arith in
        let same : q * 10 ^ i ≡ 2 * (q * (5 * 10 ^ (i - 1))) = ap (λ p. q * p) half ∙ out in
        ap (λ m. m % 2) same ∙ omega arith

    even_folded : 12287 < x + k - 12352 → nearest n (d * 10 ^ k) * 10 ^ (x + k - 12352 - 12287) % 2 ≡ 0
    even_folded lt = even_times (nearest n (d * 10 ^ k)) (x + k - 12352 - 12287) (omega (arith, lt))

    far : (f : ℕ) → 12352 ≤ f + offset
    far f = let o = offset_is in omega (arith, o)

    inner : 12287 < x + k - 12352 → (b : Bool) → nat_lt (nearest n (d * 10 ^ k) * 10 ^ (x + k - 12352 - 12287)) (10 ^ 34) ≡ b
        → IsNearestDecimal n d x (if b then Finite s (nearest n (d * 10 ^ k) * 10 ^ (x + k - 12352 - 12287)) 12287 else Infinite s)
    inner lt true t = λ b f hb. (
      subst (λ m. distance (n * 10 ^ x) m ≤ distance (n * 10 ^ x) (b * (d * 10 ^ (f + offset)))) (folded lt) (other n d x k b (f + offset) h enough cut hb (far f)),
      λ tie. inr (even_folded lt),
    )
    inner lt false t =
        let o = offset_is in
        let great : 10 ^ 34 ≤ nearest n (d * 10 ^ k) * 10 ^ (x + k - 12352 - 12287) = grind (arith, nat_tests) in
        let same : x + k - 12352 - 12287 ≡ x + k - (12287 + offset) = omega (arith, o) in
        beyond n d x k (12287 + offset) h enough cut (omega (arith, o)) (omega (arith, o, lt)) (subst (λ i. 10 ^ 34 ≤ nearest n (d * 10 ^ k) * 10 ^ i) same great)

    by : (b : Bool) → nat_le (x + k - 12352) 12287 ≡ b → IsNearestDecimal n d x (if b then Finite s (nearest n (d * 10 ^ k)) (x + k - 12352) else fold_down s (nearest n (d * 10 ^ k)) (x + k - 12352 - 12287))
    by true t = λ b f hb. subst (λ z. (distance (n * 10 ^ x) (nearest n (d * 10 ^ k) * (d * 10 ^ z)) ≤ distance (n * 10 ^ x) (b * (d * 10 ^ (f + offset))))
        × (distance (n * 10 ^ x) (b * (d * 10 ^ (f + offset))) ≡ distance (n * 10 ^ x) (nearest n (d * 10 ^ k) * (d * 10 ^ z))
        → (b * 10 ^ (f + offset) ≡ nearest n (d * 10 ^ k) * 10 ^ z) ⊎ (nearest n (d * 10 ^ k) % 2 ≡ 0))) unclamped
        (other n d x k b (f + offset) h enough cut hb (far f), λ tie. level n d x k b (f + offset) h enough cut hb (far f) tie)
    by false t = let lt : 12287 < x + k - 12352 = grind (arith, nat_tests) in inner lt (nat_lt (nearest n (d * 10 ^ k) * 10 ^ (x + k - 12352 - 12287)) (10 ^ 34)) refl

nearest_of : (s : Bool) (n d x : ℕ) → 0 < d → Enough n d → IsNearestDecimal n d x (nearest_decimal s n d x)
nearest_of s n d x h enough = clamped s n d x (cut_from n n d (12352 - x)) h enough (cut_found n d (12352 - x) h)

pub nearest_whole : (s : Bool) (n x : ℕ) → IsNearestDecimal n 1 x (decimal_of s n x)
nearest_whole s n x = nearest_of s n 1 x (lit< tt) (inl (omega arith))

-- ---- a quotient

same_number : (n m d x y : ℕ) → n * 10 ^ x ≡ m * 10 ^ y → (r : Decimal) → IsNearestDecimal n d x r → IsNearestDecimal m d y r
same_number n m d x y e NotANumber p = p
same_number n m d x y e (Infinite s) p = subst (λ v. (2 * 10 ^ 34 - 1) * (d * 10 ^ (12287 + offset)) ≤ 2 * v) e p
same_number n m d x y e (Finite s c z) p = λ b f hb. subst (λ v. (distance v (c * (d * 10 ^ (z + offset))) ≤ distance v (b * (d * 10 ^ (f + offset))))
    × (distance v (b * (d * 10 ^ (f + offset))) ≡ distance v (c * (d * 10 ^ (z + offset))) → (b * 10 ^ (f + offset) ≡ c * 10 ^ (z + offset)) ⊎ (c % 2 ≡ 0))) e (p b f hb)

-- the search for zeros ends with a division that leaves nothing, or at its last step
zeros_found : (more c d z : ℕ) → (c * 10 ^ zeros_from more c d z % d ≡ 0) ⊎ (zeros_from more c d z ≡ z + more)
zeros_found zero c d z = inr (omega arith)
zeros_found (suc more) c d z = by (c * 10 ^ z % d == 0) refl (zeros_found more c d (suc z))
  where
    by : (b : Bool) → (c * 10 ^ z % d == 0) ≡ b → (c * 10 ^ zeros_from more c d (suc z) % d ≡ 0) ⊎ (zeros_from more c d (suc z) ≡ suc z + more)
        → (c * 10 ^ (if b then z else zeros_from more c d (suc z)) % d ≡ 0) ⊎ ((if b then z else zeros_from more c d (suc z)) ≡ z + suc more)
    by true t p = inl (grind (arith, nat_tests))
    by false t (inl e) = inl e
    by false t (inr e) = inr (omega (arith, e))

enough_divided : (c d : ℕ) → d < 10 ^ 34 → Enough (c * 10 ^ zeros_to_divide c d) d
unfolding zeros_to_divide
enough_divided zero d hd = inl (let none : 0 * 10 ^ zeros_from 68 0 d 0 ≡ 0 = omega arith in ap (λ n. n % d) none ∙ omega arith)
enough_divided (suc c) d hd = by (zeros_found 68 (suc c) d 0)
  where
    by : (suc c * 10 ^ zeros_from 68 (suc c) d 0 % d ≡ 0) ⊎ (zeros_from 68 (suc c) d 0 ≡ 0 + 68) → Enough (suc c * 10 ^ zeros_from 68 (suc c) d 0) d
    by (inl e) = inl e
    by (inr e) = inr (subst (λ z. 10 ^ 34 * d ≤ suc c * 10 ^ z) (sym e) (omega (arith, hd)))

pub nearest_quotient : (s : Bool) (c d x : ℕ) → 0 < d → d < 10 ^ 34 → 68 ≤ x → IsNearestDecimal c d x (quotient s c d x)
nearest_quotient s c d x h hd hx = subst (λ b. IsNearestDecimal c d x (if b then infinity_times s c else nearest_decimal s (c * 10 ^ zeros_to_divide c d) d (x - zeros_to_divide c d))) (sym some)
    (same_number (c * 10 ^ zeros_to_divide c d) c d (x - zeros_to_divide c d) x whole (nearest_decimal s (c * 10 ^ zeros_to_divide c d) d (x - zeros_to_divide c d))
    (nearest_of s (c * 10 ^ zeros_to_divide c d) d (x - zeros_to_divide c d) h (enough_divided c d hd)))
  where
    some : (d == 0) ≡ false
    some = grind (arith, nat_tests)

    sum : zeros_to_divide c d + (x - zeros_to_divide c d) ≡ x
    sum = let limit = zeros_limit c d in omega (arith, limit, hx)

    whole : c * 10 ^ zeros_to_divide c d * 10 ^ (x - zeros_to_divide c d) ≡ c * 10 ^ x
    whole = mul_assoc c (10 ^ zeros_to_divide c d) (10 ^ (x - zeros_to_divide c d)) ∙ ap (λ p. c * p) (sym (pow-add 10 (zeros_to_divide c d) (x - zeros_to_divide c d)) ∙ ap (λ e. 10 ^ e) sum)

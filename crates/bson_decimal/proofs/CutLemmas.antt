-- How many digits are cut off.
use Rattle.std.proofs.Common.{◌≡◌, ℕ, zero, suc, ◌+◌, ◌-◌, ◌*◌, ◌/◌, ◌%◌, ◌^◌, ◌<◌, ◌≤◌, ◌⊎◌, inl, inr, Bool, true, false, if◌then◌else◌, refl, sym, ap, ◌∙◌, subst, arith, lit<, mul_assoc, le_trans, mod-lt, div-add-mod', mul-le-mul_right, mul-lt-mul_of_pos_right}
use Rattle.std.specs.Prelude.{nat_lt}
use Rattle.std.specs.Cmp.{nat_cmp_is, ranks}
use Rattle.std.specs.Ordering.{MatchOrdering, nat_cmp, match_ordering}
use Rattle.std.specs.declared.cmp.Ordering.{Ordering}
use Rattle.std.specs.declared.cmp.Ordering.TheVariants.{Less, Equal, Greater}
use Rattle.std.proofs.Math.Nat.{pow-suc, pow-le-pow_right, div-eq_of_lt}
use Rattle.std.proofs.lemmas.Nat.{mul-le, pow-add, le-div}
use Rattle.std.proofs.lemmas.Bool.{cases_lt}
use Rattle.std.proofs.lemmas.Bool.Decides.{nat_tests}
use Rattle.bson_decimal.specs.Arithmetic.{nearest, cut_from, cut_digits, clamp, nearest_decimal, decimal_of}
use Rattle.bson_decimal.proofs.RoundLemmas.{nearest_split, nearest_least, nearest_most, some_power}

-- the first place from k on where f is below 10^34
abbrev pub search_from : ℕ → (ℕ → ℕ) → ℕ → ℕ
search_from zero f k = k
search_from (suc more) f k = if nat_lt (f k) (10 ^ 34) then k else search_from more f (suc k)

abbrev pub Found : (ℕ → ℕ) → ℕ → ℕ → Type 0
Found f k cut = (f cut < 10 ^ 34) × (k ≤ cut) × ((i : ℕ) → k ≤ i → i < cut → 10 ^ 34 ≤ f i)

pub found : (more : ℕ) (f : ℕ → ℕ) (k : ℕ) → f (k + more) < 10 ^ 34 → Found f k (search_from more f k)
found zero f k h = let same : k + 0 ≡ k = omega arith in (subst (λ m. f m < 10 ^ 34) same h, omega arith, λ i l m. absurd (omega (arith, l, m)))
found (suc more) f k h = by (nat_lt (f k) (10 ^ 34)) refl (found more f (suc k) (let next : k + suc more ≡ suc k + more = omega arith in subst (λ m. f m < 10 ^ 34) next h))
  where
    under : nat_lt (f k) (10 ^ 34) ≡ true → f k < 10 ^ 34
    under t = grind (arith, nat_tests)

    over : nat_lt (f k) (10 ^ 34) ≡ false → 10 ^ 34 ≤ f k
    over t = grind (arith, nat_tests)

    here : nat_lt (f k) (10 ^ 34) ≡ false → Found f (suc k) (search_from more f (suc k)) → (i : ℕ) → (i < suc k) ⊎ (suc k ≤ i) → k ≤ i → i < search_from more f (suc k) → 10 ^ 34 ≤ f i
    here t rest i (inl lt) l m = let same : k ≡ i = omega arith in subst (λ m. 10 ^ 34 ≤ f m) same (over t)
    here t rest i (inr ge) l m = rest.2 i ge m

    by : (b : Bool) → nat_lt (f k) (10 ^ 34) ≡ b → Found f (suc k) (search_from more f (suc k)) → Found f k (if b then k else search_from more f (suc k))
    by true t rest = (under t, omega arith, λ i l m. absurd (omega (arith, l, m)))
    by false t rest = (rest.0, omega (arith, rest.1), λ i l m. here t rest i (cases_lt i (suc k)) l m)

-- equal, or both too great
abbrev pub Agree : ℕ → ℕ → Type 0
Agree m n = (m ≡ n) ⊎ ((10 ^ 34 ≤ m) × (10 ^ 34 ≤ n))

-- where one is found the other one is
pub found_same : (f g : ℕ → ℕ) (k a b : ℕ) → ((i : ℕ) → Agree (f i) (g i)) → Found f k a → Found g k b → a ≡ b
found_same f g k a b agree u v = by (cases_lt a b) (cases_lt b a)
  where
    first : Agree (f a) (g a) → a < b → ⊥
    first (inl e) lt = let great = v.2 a u.1 lt in let less = u.0 in omega (arith, e, great, less)
    first (inr p) lt = let less = u.0 in let great = p.0 in omega (arith, great, less)

    second : Agree (f b) (g b) → b < a → ⊥
    second (inl e) lt = let great = u.2 b v.1 lt in let less = v.0 in omega (arith, e, great, less)
    second (inr p) lt = let less = v.0 in let great = p.1 in omega (arith, great, less)

    by : (a < b) ⊎ (b ≤ a) → (b < a) ⊎ (a ≤ b) → a ≡ b
    by (inl lt) p = absurd (first (agree a) lt)
    by (inr le) (inl lt) = absurd (second (agree b) lt)
    by (inr le) (inr ge) = omega arith

-- j places further on
pub found_shifted : (f g : ℕ → ℕ) (k l a b j : ℕ) → k ≡ l - j → ((i : ℕ) → g (i + j) ≡ f i) → ((i : ℕ) → i < j → 10 ^ 34 ≤ g i) → Found f k a → Found g l b → b ≡ a + j
found_shifted f g k l a b j start same before u v = by (cases_lt b (a + j)) (cases_lt (a + j) b)
  where
    low : (b < j) ⊎ (j ≤ b) → b < a + j → ⊥
    low (inl lt) h = let great = before b lt in let less = v.0 in omega (arith, great, less)
    low (inr ge) h =
        let back : b - j + j ≡ b = omega arith in
        let e : g b ≡ f (b - j) = subst (λ m. g m ≡ f (b - j)) back (same (b - j)) in
        let from = v.1 in
        let great = u.2 (b - j) (omega (arith, from, start)) (omega (arith, h)) in
        let less = v.0 in
        omega (arith, e, great, less)

    high : a + j < b → ⊥
    high h =
        let from = u.1 in
        let great = v.2 (a + j) (omega (arith, from, start)) h in
        let less = u.0 in
        let e = same a in
        omega (arith, e, great, less)

    by : (b < a + j) ⊎ (a + j ≤ b) → (a + j < b) ⊎ (b ≤ a + j) → b ≡ a + j
    by (inl lt) p = absurd (low (cases_lt b j) lt)
    by (inr le) (inl lt) = absurd (high lt)
    by (inr le) (inr ge) = omega arith

-- ---- the search of the definition

is_search : (more n d k : ℕ) → cut_from more n d k ≡ search_from more (λ i. nearest n (d * 10 ^ i)) k
is_search zero n d k = refl
is_search (suc more) n d k = ap (λ c. if nat_lt (nearest n (d * 10 ^ k)) (10 ^ 34) then k else c) (is_search more n d (suc k))

less_power : (n : ℕ) → n < 10 ^ n
less_power zero = lit< tt
less_power (suc n) = let less = less_power n in let next : 10 ^ suc n ≡ 10 ^ n * 10 = pow-suc 10 n in omega (arith, less, next)

nothing_left : (n d k : ℕ) → 0 < d → nearest n (d * 10 ^ (k + n)) < 10 ^ 34
nothing_left n d k h =
    let less = less_power n in
    let up : 10 ^ n ≤ 10 ^ (k + n) = pow-le-pow_right (lit< tt) (omega arith) in
    let step : 1 * 10 ^ (k + n) ≤ d * 10 ^ (k + n) = mul-le-mul_right (10 ^ (k + n)) h in
    let room : n < d * 10 ^ (k + n) = omega (arith, less, up, step) in
    let none : n / (d * 10 ^ (k + n)) ≡ 0 = div-eq_of_lt room in
    let most = nearest_most n (d * 10 ^ (k + n)) in
    omega (arith, none, most)

pub cut_found : (n d k : ℕ) → 0 < d → Found (λ i. nearest n (d * 10 ^ i)) k (cut_from n n d k)
cut_found n d k h = subst (λ c. Found (λ i. nearest n (d * 10 ^ i)) k c) (sym (is_search n n d k)) (found n (λ i. nearest n (d * 10 ^ i)) k (nothing_left n d k h))

-- a quotient that is rounded as a whole number is
pub agree_decimal : (s : Bool) (n d m x : ℕ) → 0 < d → ((i : ℕ) → Agree (nearest n (d * 10 ^ i)) (nearest m (1 * 10 ^ i))) → decimal_of s m x ≡ nearest_decimal s n d x
agree_decimal s n d m x h agree =
    ap (λ k. cut_digits s m 1 x k) (sym same) ∙ ap (λ v. clamp s v (x + cut_from n n d (12352 - x) - 12352)) (value (agree (cut_from n n d (12352 - x))))
  where
    there : Found (λ i. nearest n (d * 10 ^ i)) (12352 - x) (cut_from n n d (12352 - x))
    there = cut_found n d (12352 - x) h

    same : cut_from n n d (12352 - x) ≡ cut_from m m 1 (12352 - x)
    same = found_same (λ i. nearest n (d * 10 ^ i)) (λ i. nearest m (1 * 10 ^ i)) (12352 - x) (cut_from n n d (12352 - x)) (cut_from m m 1 (12352 - x)) agree there (cut_found m 1 (12352 - x) (lit< tt))

    value : Agree (nearest n (d * 10 ^ cut_from n n d (12352 - x))) (nearest m (1 * 10 ^ cut_from n n d (12352 - x))) → nearest m (1 * 10 ^ cut_from n n d (12352 - x)) ≡ nearest n (d * 10 ^ cut_from n n d (12352 - x))
    value (inl e) = sym e
    value (inr p) = let great = p.0 in let less = there.0 in absurd (omega (arith, great, less))

-- ---- the same quotient by other numbers

compare_times : (a b p : ℕ) → 0 < p → nat_cmp a b ≡ nat_cmp (a * p) (b * p)
compare_times a b p h = nat_cmp_is (a * p) (b * p) (nat_cmp a b) (by (nat_cmp a b) (ranks a b))
  where
    by : (o : Ordering) → MatchOrdering o (a < b) (a ≡ b) (b < a) → MatchOrdering o (a * p < b * p) (a * p ≡ b * p) (b * p < a * p)
    by Less l = mul-lt-mul_of_pos_right l h
    by Equal e = ap (λ n. n * p) e
    by Greater l = mul-lt-mul_of_pos_right l h

pub nearest_times : (n d p : ℕ) → 0 < d → 0 < p → nearest (n * p) (d * p) ≡ nearest n d
unfolding nearest
nearest_times n d p hd hp =
    sym (nearest_split (n * p) (n / d) (d * p) (n % d * p) whole (mul-lt-mul_of_pos_right (mod-lt n hd) hp))
    ∙ ap (λ o. n / d + match_ordering o 0 (n / d % 2) 1) (ap (λ m. nat_cmp m (d * p)) (sym (mul_assoc 2 (n % d) p)) ∙ sym (compare_times (2 * (n % d)) d p hp))
  where
    turn : (q d r p : ℕ) → (q * d + r) * p ≡ q * (d * p) + r * p
    turn q d r p = grind arith

    whole : n * p ≡ n / d * (d * p) + n % d * p
    whole = ap (λ m. m * p) (sym (div-add-mod' n d)) ∙ turn (n / d) d (n % d) p

-- with more zeros, if there are digits enough
pub more_zeros : (s : Bool) (n d x j : ℕ) → 0 < d → 10 ^ 34 * d ≤ n → nearest_decimal s n d (x + j) ≡ nearest_decimal s (n * 10 ^ j) d x
more_zeros s n d x j h great =
    ap (λ v. clamp s v (x + j + cut_from n n d (12352 - (x + j)) - 12352)) (sym (same (cut_from n n d (12352 - (x + j)))))
    ∙ ap (λ y. clamp s (nearest (n * 10 ^ j) (d * 10 ^ (cut_from n n d (12352 - (x + j)) + j))) (y - 12352)) turned
    ∙ ap (λ k. cut_digits s (n * 10 ^ j) d x k) (sym further)
  where
    turn : (d p q : ℕ) → d * (p * q) ≡ d * p * q
    turn d p q = grind arith

    some : (i : ℕ) → 0 < d * 10 ^ i
    some i = let one = some_power i in let step : 1 * 10 ^ i ≤ d * 10 ^ i = mul-le-mul_right (10 ^ i) h in omega (arith, one, step)

    same : (i : ℕ) → nearest (n * 10 ^ j) (d * 10 ^ (i + j)) ≡ nearest n (d * 10 ^ i)
    same i = ap (λ p. nearest (n * 10 ^ j) p) (ap (λ p. d * p) (pow-add 10 i j) ∙ turn d (10 ^ i) (10 ^ j)) ∙ nearest_times n (d * 10 ^ i) (10 ^ j) (some i) (some_power j)

    before : (i : ℕ) → i < j → 10 ^ 34 ≤ nearest (n * 10 ^ j) (d * 10 ^ i)
    before i lt =
        let up : 10 ^ i ≤ 10 ^ j = pow-le-pow_right (lit< tt) (omega arith) in
        let step : 10 ^ 34 * d * 10 ^ i ≤ n * 10 ^ j = mul-le (10 ^ 34 * d) (10 ^ i) n (10 ^ j) great up in
        let turned2 : 10 ^ 34 * (d * 10 ^ i) ≡ 10 ^ 34 * d * 10 ^ i = turn (10 ^ 34) d (10 ^ i) in
        le_trans (le-div (10 ^ 34) (n * 10 ^ j) (d * 10 ^ i) (some i) (omega (arith, step, turned2))) (nearest_least (n * 10 ^ j) (d * 10 ^ i))

    start : 12352 - (x + j) ≡ 12352 - x - j
    start = omega arith

    further : cut_from (n * 10 ^ j) (n * 10 ^ j) d (12352 - x) ≡ cut_from n n d (12352 - (x + j)) + j
    further = found_shifted (λ i. nearest n (d * 10 ^ i)) (λ i. nearest (n * 10 ^ j) (d * 10 ^ i)) (12352 - (x + j)) (12352 - x) (cut_from n n d (12352 - (x + j)))
        (cut_from (n * 10 ^ j) (n * 10 ^ j) d (12352 - x)) j start same before (cut_found n d (12352 - (x + j)) h) (cut_found (n * 10 ^ j) d (12352 - x) h)

    turned : x + j + cut_from n n d (12352 - (x + j)) ≡ x + (cut_from n n d (12352 - (x + j)) + j)
    turned = omega arith

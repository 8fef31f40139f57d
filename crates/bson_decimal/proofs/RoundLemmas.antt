-- Quotients that are rounded.
use Rattle.std.proofs.Common.{zero-mul, ◌≡◌, ℕ, zero, suc, ◌+◌, ◌-◌, ◌*◌, ◌/◌, ◌%◌, ◌^◌, ◌<◌, ◌≤◌, ◌⊎◌, inl, inr, Bool, true, false, if◌then◌else◌, refl, sym, ap, ◌∙◌, subst, arith, lit<, mul_comm, le_trans, lt_of_lt_of_le, div-lt_iff_lt-mul, div-le_self, mul-lt-mul_of_pos_right, mod-lt, div-add-mod', mul-le-mul_right}
use Rattle.std.specs.Prelude.{nat_lt}
use Rattle.std.specs.Cmp.{nat_cmp_is, ranks}
use Rattle.std.specs.Ordering.{MatchOrdering, nat_cmp, match_ordering, ordering_then}
use Rattle.std.specs.declared.cmp.Ordering.{Ordering}
use Rattle.std.specs.declared.cmp.Ordering.TheVariants.{Less, Equal, Greater}
use Rattle.std.proofs.Math.Nat.{pow-suc, pow-le-pow_right, one-le-pow}
use Rattle.std.proofs.lemmas.Nat.{mul-le, pow-add, le-div, div-mul-add, mod-mul-add}
use Rattle.std.proofs.lemmas.Bool.{cases_lt}
use Rattle.std.proofs.lemmas.Bool.Decides.{nat_tests}
use Rattle.bson_decimal.specs.Arithmetic.{nearest, half_even, cut_from, decimal_of, cut_digits, clamp, fold_down}
use Rattle.bson_decimal.specs.declared.decimal.Decimal.{Decimal}
use Rattle.bson_decimal.specs.declared.decimal.Decimal.TheVariants.{Finite, Infinite}

pub some_power : (k : ℕ) → 0 < 10 ^ k
some_power k = one-le-pow k 10 (lit< tt)

-- 10^34 in two parts
pub halves : (k : ℕ) → k ≤ 34 → 10 ^ (34 - k) * 10 ^ k ≡ 10 ^ 34
halves k h = let whole : 34 - k + k ≡ 34 = omega arith in sym (pow-add 10 (34 - k) k) ∙ ap (λ n. 10 ^ n) whole

-- a quotient has room
pub quotient_room : (h l p q : ℕ) → 0 < p → q * p ≡ 10 ^ 34 → h < p → l < 10 ^ 34 → h * q + l / p < 10 ^ 34
quotient_room h l p q hp e hh hl =
    let low : l / p < q = (div-lt_iff_lt-mul hp).1 (subst (λ n. l < n) (sym e) hl) in
    let step : (h + 1) * q ≤ p * q = mul-le (h + 1) q p q (omega arith) (omega arith) in
    let out : (h + 1) * q ≡ h * q + q = grind arith in
    let turned : p * q ≡ 10 ^ 34 = mul_comm p q ∙ e in
    omega (arith, low, step, out, turned)

pub high_room : (h p q : ℕ) → q * p ≡ 10 ^ 34 → h < p → h * q ≤ 10 ^ 34
high_room h p q e hh =
    let step : h * q ≤ p * q = mul-le h q p q (omega arith) (omega arith) in
    let turned : p * q ≡ 10 ^ 34 = mul_comm p q ∙ e in
    omega (arith, step, turned)

-- a number that is a multiple of the divisor and some more
pub nearest_split : (n a p r : ℕ) → n ≡ a * p + r → r < p → half_even a r p ≡ nearest n p
unfolding nearest
nearest_split n a p r e h =
    let whole : n / p ≡ a = ap (λ m. m / p) e ∙ div-mul-add a p r h in
    let rest : n % p ≡ r = ap (λ m. m % p) e ∙ mod-mul-add a p r h in
    ap (λ m. half_even m r p) (sym whole) ∙ ap (λ m. half_even (n / p) m p) (sym rest)

pub nearest_of_low : (h l p q : ℕ) → 0 < p → q * p ≡ 10 ^ 34 → half_even (h * q + l / p) (l % p) p ≡ nearest (h * 10 ^ 34 + l) p
nearest_of_low h l p q hp e = nearest_split (h * 10 ^ 34 + l) (h * q + l / p) p (l % p) same (mod-lt l hp)
  where
    turn : (h q p a r : ℕ) → h * (q * p) + (a * p + r) ≡ (h * q + a) * p + r
    turn h q p a r = grind arith

    same : h * 10 ^ 34 + l ≡ (h * q + l / p) * p + l % p
    same = ap (λ n. h * n + l) (sym e) ∙ ap (λ n. h * (q * p) + n) (sym (div-add-mod' l p)) ∙ turn h q p (l / p) (l % p)

-- twice a remainder of two digits beside a divisor that is even and has zeros for its lower one
pub half_of_two : (r l m : ℕ) → l < 10 ^ 34 → ordering_then (nat_cmp (2 * r) (2 * m)) (nat_cmp l 0) ≡ nat_cmp (2 * (r * 10 ^ 34 + l)) (2 * m * 10 ^ 34)
half_of_two r l m hl = nat_cmp_is (2 * (r * 10 ^ 34 + l)) (2 * m * 10 ^ 34) (ordering_then (nat_cmp (2 * r) (2 * m)) (nat_cmp l 0)) (by (nat_cmp (2 * r) (2 * m)) (ranks (2 * r) (2 * m)))
  where
    inner : (o : Ordering) → 2 * r ≡ 2 * m → MatchOrdering o (l < 0) (l ≡ 0) (0 < l)
        → MatchOrdering o (2 * (r * 10 ^ 34 + l) < 2 * m * 10 ^ 34) (2 * (r * 10 ^ 34 + l) ≡ 2 * m * 10 ^ 34) (2 * m * 10 ^ 34 < 2 * (r * 10 ^ 34 + l))
    inner Less e h = absurd (omega (arith, h))
    inner Equal e h = omega (arith, e, h)
    inner Greater e h = omega (arith, e, h)

    by : (o : Ordering) → MatchOrdering o (2 * r < 2 * m) (2 * r ≡ 2 * m) (2 * m < 2 * r)
        → MatchOrdering (ordering_then o (nat_cmp l 0)) (2 * (r * 10 ^ 34 + l) < 2 * m * 10 ^ 34) (2 * (r * 10 ^ 34 + l) ≡ 2 * m * 10 ^ 34) (2 * m * 10 ^ 34 < 2 * (r * 10 ^ 34 + l))
    by Less h = omega (arith, h, hl)
    by Equal h = inner (nat_cmp l 0) h (ranks l 0)
    by Greater h = omega (arith, h)

pub nearest_of_high : (h l k m : ℕ) → 10 ^ k ≡ 2 * m → l < 10 ^ 34
    → h / 10 ^ k + match_ordering (ordering_then (nat_cmp (2 * (h % 10 ^ k)) (10 ^ k)) (nat_cmp l 0)) 0 (h / 10 ^ k % 2) 1 ≡ nearest (h * 10 ^ 34 + l) (10 ^ (k + 34))
nearest_of_high h l k m e hl =
    ap (λ o. h / 10 ^ k + match_ordering o 0 (h / 10 ^ k % 2) 1) order
    ∙ nearest_split (h * 10 ^ 34 + l) (h / 10 ^ k) (10 ^ k * 10 ^ 34) (h % 10 ^ k * 10 ^ 34 + l) same room
    ∙ ap (λ d. nearest (h * 10 ^ 34 + l) d) (sym (pow-add 10 k 34))
  where
    order : ordering_then (nat_cmp (2 * (h % 10 ^ k)) (10 ^ k)) (nat_cmp l 0) ≡ nat_cmp (2 * (h % 10 ^ k * 10 ^ 34 + l)) (10 ^ k * 10 ^ 34)
    order = ap (λ p. ordering_then (nat_cmp (2 * (h % 10 ^ k)) p) (nat_cmp l 0)) e ∙ half_of_two (h % 10 ^ k) l m hl ∙ ap (λ p. nat_cmp (2 * (h % 10 ^ k * 10 ^ 34 + l)) (p * 10 ^ 34)) (sym e)

    turn : (a p r w l : ℕ) → (a * p + r) * w + l ≡ a * (p * w) + (r * w + l)
    turn a p r w l = grind arith

    same : h * 10 ^ 34 + l ≡ h / 10 ^ k * (10 ^ k * 10 ^ 34) + (h % 10 ^ k * 10 ^ 34 + l)
    same = ap (λ n. n * 10 ^ 34 + l) (sym (div-add-mod' h (10 ^ k))) ∙ turn (h / 10 ^ k) (10 ^ k) (h % 10 ^ k) (10 ^ 34) l

    room : h % 10 ^ k * 10 ^ 34 + l < 10 ^ k * 10 ^ 34
    room = let less : h % 10 ^ k < 10 ^ k = mod-lt h (some_power k) in omega (arith, less, hl)

pub even_power : (k : ℕ) → 0 < k → 10 ^ k ≡ 2 * (5 * 10 ^ (k - 1))
even_power k h =
    let next : k ≡ suc (k - 1) = omega arith in
    let power : 10 ^ suc (k - 1) ≡ 10 ^ (k - 1) * 10 = pow-suc 10 (k - 1) in
    ap (λ n. 10 ^ n) next ∙ power ∙ omega arith

-- nothing is left
pub nearest_nothing : (n k : ℕ) → n < 10 ^ 68 → 68 < k → 0 ≡ nearest n (10 ^ k)
nearest_nothing n k h hk =
    let le : 69 ≤ k = omega arith in
    let up : 10 ^ 69 ≤ 10 ^ k = pow-le-pow_right (lit< tt) le in
    let none : n ≡ 0 * 10 ^ k + n = omega arith in
    let less : n < 10 ^ k = omega (arith, up, h) in
    let half : Less ≡ nat_cmp (2 * n) (10 ^ k) = nat_cmp_is (2 * n) (10 ^ k) Less (omega (arith, up, h)) in
    ap (λ o. 0 + match_ordering o 0 (0 % 2) 1) half ∙ nearest_split n 0 (10 ^ k) n none less

-- ---- how great a rounded quotient is

more_or_less : (o : Ordering) (q : ℕ) → match_ordering o 0 (q % 2) 1 ≤ 1
more_or_less Less q = omega arith
more_or_less Equal q = omega arith
more_or_less Greater q = omega arith

pub nearest_least : (n d : ℕ) → n / d ≤ nearest n d
unfolding nearest
nearest_least n d = omega arith

pub nearest_most : (n d : ℕ) → nearest n d ≤ n / d + 1
unfolding nearest
nearest_most n d = let one = more_or_less (nat_cmp (2 * (n % d)) d) (n / d) in omega (arith, one)

-- with too few digits cut off
pub too_few : (h l i : ℕ) → 10 ^ i ≤ h → 10 ^ 34 ≤ nearest (h * 10 ^ 34 + l) (10 ^ i)
too_few h l i hi =
    let step : 10 ^ 34 * 10 ^ i ≤ h * 10 ^ 34 + l = omega (arith, hi) in
    le_trans (le-div (10 ^ 34) (h * 10 ^ 34 + l) (10 ^ i) (some_power i) step) (nearest_least (h * 10 ^ 34 + l) (10 ^ i))

-- and with one more than enough
pub enough : (h l k : ℕ) → h < 10 ^ k → l < 10 ^ 34 → nearest (h * 10 ^ 34 + l) (10 ^ (k + 1)) < 10 ^ 34
enough h l k hh hl =
    let next : 10 ^ (k + 1) ≡ 10 ^ k * 10 = pow-add 10 k 1 in
    let room : h * 10 ^ 34 + l < 10 ^ 33 * 10 ^ (k + 1) = subst (λ p. h * 10 ^ 34 + l < 10 ^ 33 * p) (sym next) (omega (arith, hh, hl)) in
    let less : (h * 10 ^ 34 + l) / 10 ^ (k + 1) < 10 ^ 33 = (div-lt_iff_lt-mul (some_power (k + 1))).1 room in
    let most = nearest_most (h * 10 ^ 34 + l) (10 ^ (k + 1)) in
    omega (arith, less, most)

-- ---- where the search ends

-- of a whole number

abbrev pub whole_cut_from : ℕ → ℕ → ℕ → ℕ
whole_cut_from zero n k = k
whole_cut_from (suc more) n k = if nat_lt (nearest n (10 ^ k)) (10 ^ 34) then k else whole_cut_from more n (suc k)

abbrev pub cut_whole : Bool → ℕ → ℕ → ℕ → Decimal
cut_whole s n x k = clamp s (nearest n (10 ^ k)) (x + k - 12352)

once : (p : ℕ) → p ≡ 1 * p
once p = omega arith

whole_cut_is : (more n k : ℕ) → whole_cut_from more n k ≡ cut_from more n 1 k
whole_cut_is zero n k = refl
whole_cut_is (suc more) n k =
    ap (λ d. if nat_lt (nearest n d) (10 ^ 34) then k else whole_cut_from more n (suc k)) (once (10 ^ k))
    ∙ ap (λ c. if nat_lt (nearest n (1 * 10 ^ k)) (10 ^ 34) then k else c) (whole_cut_is more n (suc k))

pub decimal_is : (s : Bool) (n x : ℕ) → cut_whole s n x (whole_cut_from n n (12352 - x)) ≡ decimal_of s n x
decimal_is s n x =
    ap (λ d. clamp s (nearest n d) (x + whole_cut_from n n (12352 - x) - 12352)) (once (10 ^ whole_cut_from n n (12352 - x)))
    ∙ ap (λ k. cut_digits s n 1 x k) (whole_cut_is n n (12352 - x))

cut_test : (n k more : ℕ) (b : Bool) → nat_lt (nearest n (10 ^ k)) (10 ^ 34) ≡ b → whole_cut_from (suc more) n k ≡ (if b then k else whole_cut_from more n (suc k))
cut_test n k more b t = ap (λ b. if b then k else whole_cut_from more n (suc k)) t

pub ends_at : (more n k j : ℕ) → j ≤ more → ((i : ℕ) → i < j → 10 ^ 34 ≤ nearest n (10 ^ (k + i))) → nearest n (10 ^ (k + j)) < 10 ^ 34 → whole_cut_from more n k ≡ k + j
ends_at zero n k j h before at = omega arith
ends_at (suc more) n k zero h before at =
    let same : k + 0 ≡ k = omega arith in
    let less : nearest n (10 ^ k) < 10 ^ 34 = subst (λ m. nearest n (10 ^ m) < 10 ^ 34) same at in
    let t : nat_lt (nearest n (10 ^ k)) (10 ^ 34) ≡ true = grind (arith, nat_tests) in
    cut_test n k more true t ∙ sym same
ends_at (suc more) n k (suc j) h before at =
    let same : k + 0 ≡ k = omega arith in
    let great : 10 ^ 34 ≤ nearest n (10 ^ k) = subst (λ m. 10 ^ 34 ≤ nearest n (10 ^ m)) same (before 0 (omega arith)) in
    let t : nat_lt (nearest n (10 ^ k)) (10 ^ 34) ≡ false = grind (arith, nat_tests) in
    let next : suc k + j ≡ k + suc j = omega arith in
    cut_test n k more false t
    ∙ ends_at more n (suc k) j (omega arith)
    (λ i l. let e : k + suc i ≡ suc k + i = omega arith in subst (λ m. 10 ^ 34 ≤ nearest n (10 ^ m)) e (before (suc i) (omega arith)))
    (subst (λ m. nearest n (10 ^ m) < 10 ^ 34) (sym next) at)
    ∙ next

-- if some are too few, the number is great
great_number : (n d : ℕ) → 10 ^ 34 ≤ nearest n d → 40 ≤ n
great_number n d h = let most = nearest_most n d in let less = div-le_self n d in omega (arith, most, less, h)

ends : (n least cut : ℕ) → least ≤ cut → cut ≤ least + 40 → ((i : ℕ) → i < cut - least → 10 ^ 34 ≤ nearest n (10 ^ (least + i))) → nearest n (10 ^ cut) < 10 ^ 34 → whole_cut_from n n least ≡ cut
ends n least cut le most before at =
    let whole : least + (cut - least) ≡ cut = omega arith in
    ends_at n n least (cut - least) (room (cut - least) (omega arith) before) before (subst (λ m. nearest n (10 ^ m) < 10 ^ 34) (sym whole) at) ∙ whole
  where
    room : (j : ℕ) → j ≤ 40 → ((i : ℕ) → i < j → 10 ^ 34 ≤ nearest n (10 ^ (least + i))) → j ≤ n
    room zero h before = omega arith
    room (suc j) h before = let great = great_number n (10 ^ (least + 0)) (before 0 (omega arith)) in omega (arith, great, h)

pub cut_first : (h l least cut : ℕ) → least ≤ cut → cut ≤ least + 39 → ((i : ℕ) → least + i < cut → 10 ^ (least + i) ≤ h)
    → nearest (h * 10 ^ 34 + l) (10 ^ cut) < 10 ^ 34 → whole_cut_from (h * 10 ^ 34 + l) (h * 10 ^ 34 + l) least ≡ cut
cut_first h l least cut le room before at =
    ends (h * 10 ^ 34 + l) least cut le (omega arith) (λ i lt. too_few h l (least + i) (before i (omega arith))) at

pub cut_next : (h l least cut : ℕ) → l < 10 ^ 34 → least ≤ cut → cut ≤ least + 39 → ((i : ℕ) → least + i < cut → 10 ^ (least + i) ≤ h) → h < 10 ^ cut
    → 10 ^ 34 ≤ nearest (h * 10 ^ 34 + l) (10 ^ cut) → whole_cut_from (h * 10 ^ 34 + l) (h * 10 ^ 34 + l) least ≡ cut + 1
cut_next h l least cut hl le room before hh over =
    ends (h * 10 ^ 34 + l) least (cut + 1) (omega arith) (omega arith) (λ i lt. by i (omega arith) (cases_lt (least + i) cut)) (enough h l cut hh hl)
  where
    by : (i : ℕ) → least + i ≤ cut → (least + i < cut) ⊎ (cut ≤ least + i) → 10 ^ 34 ≤ nearest (h * 10 ^ 34 + l) (10 ^ (least + i))
    by i le (inl lt) = too_few h l (least + i) (before i lt)
    by i le (inr ge) = let same : cut ≡ least + i = omega arith in subst (λ m. 10 ^ 34 ≤ nearest (h * 10 ^ 34 + l) (10 ^ m)) same over

-- ---- the decimal

pub decimal_at : (s : Bool) (n x k : ℕ) → whole_cut_from n n (12352 - x) ≡ k → cut_whole s n x k ≡ decimal_of s n x
decimal_at s n x k e = ap (λ k. cut_whole s n x k) (sym e) ∙ decimal_is s n x

pub decimal_first : (s : Bool) (h l x cut : ℕ) (c : ℕ) → 12352 - x ≤ cut → cut ≤ 12352 - x + 39 → ((i : ℕ) → 12352 - x + i < cut → 10 ^ (12352 - x + i) ≤ h)
    → c ≡ nearest (h * 10 ^ 34 + l) (10 ^ cut) → c < 10 ^ 34 → clamp s c (x + cut - 12352) ≡ decimal_of s (h * 10 ^ 34 + l) x
decimal_first s h l x cut c le room before e less =
    ap (λ c. clamp s c (x + cut - 12352)) e
    ∙ decimal_at s (h * 10 ^ 34 + l) x cut (cut_first h l (12352 - x) cut le room before (subst (λ n. n < 10 ^ 34) e less))

pub decimal_next : (s : Bool) (h l x cut : ℕ) (c d : ℕ) → l < 10 ^ 34 → 12352 - x ≤ cut → cut ≤ 12352 - x + 39 → ((i : ℕ) → 12352 - x + i < cut → 10 ^ (12352 - x + i) ≤ h) → h < 10 ^ cut
    → c ≡ nearest (h * 10 ^ 34 + l) (10 ^ cut) → 10 ^ 34 ≤ c → d ≡ nearest (h * 10 ^ 34 + l) (10 ^ (cut + 1)) → clamp s d (x + (cut + 1) - 12352) ≡ decimal_of s (h * 10 ^ 34 + l) x
decimal_next s h l x cut c d hl le room before hh e over f =
    ap (λ c. clamp s c (x + (cut + 1) - 12352)) f
    ∙ decimal_at s (h * 10 ^ 34 + l) x (cut + 1) (cut_next h l (12352 - x) cut hl le room before hh (subst (λ n. 10 ^ 34 ≤ n) e over))

-- ---- as the code has them

pub parts_of : (k p q : ℕ) → k ≤ 34 → p ≡ 10 ^ k → q ≡ 10 ^ (34 - k) → q * p ≡ 10 ^ 34
parts_of k p q h e f = ap (λ n. n * p) f ∙ ap (λ n. 10 ^ (34 - k) * n) e ∙ halves k h

pub under_power : (h k p : ℕ) → h < 10 ^ k → p ≡ 10 ^ k → h < p
under_power h k p l e = subst (λ n. h < n) (sym e) l

pub power_more : (h k j : ℕ) → h < 10 ^ k → k ≤ j → h < 10 ^ j
power_more h k j l le = lt_of_lt_of_le l (pow-le-pow_right (lit< tt) le)

pub power_less : (h k j : ℕ) → 10 ^ k ≤ h → j ≤ k → 10 ^ j ≤ h
power_less h k j l le = le_trans (pow-le-pow_right (lit< tt) le) l

pub nearest_of_high_power : (h l k p : ℕ) → 0 < k → p ≡ 10 ^ k → l < 10 ^ 34
    → h / p + match_ordering (ordering_then (nat_cmp (2 * (h % p)) p) (nat_cmp l 0)) 0 (h / p % 2) 1 ≡ nearest (h * 10 ^ 34 + l) (10 ^ (k + 34))
nearest_of_high_power h l k p hk e hl =
    ap (λ p. h / p + match_ordering (ordering_then (nat_cmp (2 * (h % p)) p) (nat_cmp l 0)) 0 (h / p % 2) 1) e ∙ nearest_of_high h l k (5 * 10 ^ (k - 1)) (even_power k hk) hl

-- ---- zeros that are appended

pub fold_zero : (s : Bool) (c k : ℕ) → c ≡ 0 → Finite s 0 12287 ≡ fold_down s c k
fold_zero s c k e =
    let none : c * 10 ^ k ≡ 0 = ap (λ n. n * 10 ^ k) e ∙ zero-mul (10 ^ k) in
    sym (ap (λ n. if nat_lt n (10 ^ 34) then Finite s n 12287 else Infinite s) none)

pub fold_room : (s : Bool) (c k p q : ℕ) → k ≤ 34 → p ≡ 10 ^ (34 - k) → q ≡ 10 ^ k → c < p → c * q < 10 ^ 34
fold_room s c k p q h e f less =
    let some : 0 < q = subst (λ n. 0 < n) (sym f) (some_power k) in
    let step : c * q < p * q = mul-lt-mul_of_pos_right less some in
    let whole : p * q ≡ 10 ^ 34 = ap (λ n. n * q) e ∙ ap (λ n. 10 ^ (34 - k) * n) f ∙ halves k h in
    subst (λ n. c * q < n) whole step

pub fold_there : (s : Bool) (c k p q : ℕ) → k ≤ 34 → p ≡ 10 ^ (34 - k) → q ≡ 10 ^ k → c < p → Finite s (c * q) 12287 ≡ fold_down s c k
fold_there s c k p q h e f less =
    let room = fold_room s c k p q h e f less in
    let t : nat_lt (c * q) (10 ^ 34) ≡ true = grind (arith, nat_tests) in
    sym (ap (λ b. if b then Finite s (c * q) 12287 else Infinite s) t) ∙ ap (λ n. if nat_lt (c * n) (10 ^ 34) then Finite s (c * n) 12287 else Infinite s) f

too_great : (s : Bool) (n : ℕ) → 10 ^ 34 ≤ n → Infinite s ≡ (if nat_lt n (10 ^ 34) then Finite s n 12287 else Infinite s)
too_great s n h = let t : nat_lt n (10 ^ 34) ≡ false = grind (arith, nat_tests) in sym (ap (λ b. if b then Finite s n 12287 else Infinite s) t)

pub fold_beyond : (s : Bool) (c k p : ℕ) → k ≤ 34 → p ≡ 10 ^ (34 - k) → p ≤ c → Infinite s ≡ fold_down s c k
fold_beyond s c k p h e le =
    let step : p * 10 ^ k ≤ c * 10 ^ k = mul-le-mul_right (10 ^ k) le in
    let whole : p * 10 ^ k ≡ 10 ^ 34 = ap (λ n. n * 10 ^ k) e ∙ halves k h in
    too_great s (c * 10 ^ k) (subst (λ n. n ≤ c * 10 ^ k) whole step)

pub fold_far : (s : Bool) (c k : ℕ) → 0 < c → 34 < k → Infinite s ≡ fold_down s c k
fold_far s c k some h =
    let le : 34 ≤ k = omega arith in
    let up : 10 ^ 34 ≤ 10 ^ k = pow-le-pow_right (lit< tt) le in
    let step : 1 * 10 ^ k ≤ c * 10 ^ k = mul-le-mul_right (10 ^ k) some in
    too_great s (c * 10 ^ k) (omega (arith, up, step))

-- ---- how many zeros there is room for

pub digits_room : (c k : ℕ) → c < 10 ^ 34 → (0 < k → 10 ^ (k - 1) ≤ c) → k ≤ 34
digits_room c k h low = by (cases_lt 34 k)
  where
    by : (34 < k) ⊎ (k ≤ 34) → k ≤ 34
    by (inr le) = le
    by (inl lt) =
        let le : 34 ≤ k - 1 = omega arith in
        let up : 10 ^ 34 ≤ 10 ^ (k - 1) = pow-le-pow_right (lit< tt) le in
        let l = low (omega arith) in
        absurd (omega (arith, up, l, h))

pub zeros_room : (c k : ℕ) → k ≤ 34 → c < 10 ^ k → c * 10 ^ (34 - k) < 10 ^ 34
zeros_room c k h less =
    let step : c * 10 ^ (34 - k) < 10 ^ k * 10 ^ (34 - k) = mul-lt-mul_of_pos_right less (some_power (34 - k)) in
    let whole : 10 ^ k * 10 ^ (34 - k) ≡ 10 ^ 34 = mul_comm (10 ^ k) (10 ^ (34 - k)) ∙ halves k h in
    subst (λ n. c * 10 ^ (34 - k) < n) whole step

pub zeros_full : (c k : ℕ) → 0 < k → k ≤ 34 → 10 ^ (k - 1) ≤ c → 10 ^ 33 ≤ c * 10 ^ (34 - k)
zeros_full c k some h le =
    let step : 10 ^ (k - 1) * 10 ^ (34 - k) ≤ c * 10 ^ (34 - k) = mul-le-mul_right (10 ^ (34 - k)) le in
    let sum : k - 1 + (34 - k) ≡ 33 = omega arith in
    let whole : 10 ^ (k - 1) * 10 ^ (34 - k) ≡ 10 ^ 33 = sym (pow-add 10 (k - 1) (34 - k)) ∙ ap (λ n. 10 ^ n) sum in
    subst (λ n. n ≤ c * 10 ^ (34 - k)) whole step

-- no digit is no number
pub some_digits : (c k : ℕ) → 0 < c → c < 10 ^ k → 0 < k
some_digits c zero h l = absurd (omega arith)
some_digits c (suc k) h l = omega arith

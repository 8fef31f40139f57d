-- Decimals of numbers in a greater unit.
use Rattle.std.proofs.Common.{◌≡◌, ℕ, zero, suc, ◌+◌, ◌-◌, ◌*◌, ◌/◌, ◌%◌, ◌^◌, ◌<◌, ◌≤◌, ◌⊎◌, inl, inr, Bool, true, false, if◌then◌else◌, refl, sym, ap, ◌∙◌, subst, arith, lit<, mul_comm, le_trans, mod-lt, div-add-mod', mul-le-mul_right, div-le_self, ◌==◌}
use Rattle.std.specs.Prelude.{nat_lt}
use Rattle.std.specs.Cmp.{nat_cmp_is}
use Rattle.std.specs.Ordering.{nat_cmp, match_ordering}
use Rattle.std.specs.declared.cmp.Ordering.TheVariants.{Greater}
use Rattle.std.proofs.Math.Nat.{pow-suc, pow-le-pow_right}
use Rattle.std.proofs.lemmas.Bool.{cases_lt}
use Rattle.std.proofs.lemmas.Bool.Decides.{nat_tests}
use Rattle.std.proofs.lemmas.Nat.{mul-le, pow-add, le-div}
use Rattle.bson_decimal.specs.Arithmetic.{nearest, clamp, decimal_of, signed_sum}
use Rattle.bson_decimal.specs.Wides.{sticky, sticky_quotient}
use Rattle.bson_decimal.proofs.RoundLemmas.{whole_cut_from, cut_whole, decimal_is, ends_at, nearest_least, nearest_nothing, some_power}
use Rattle.bson_decimal.proofs.SumLemmas.{nearest_close}

-- the search ends where few enough digits are left, and not before
abbrev Found : ℕ → ℕ → ℕ → Type 0
Found n k cut = (nearest n (10 ^ cut) < 10 ^ 34) × (k ≤ cut) × ((i : ℕ) → k ≤ i → i < cut → 10 ^ 34 ≤ nearest n (10 ^ i))

found : (more n k : ℕ) → nearest n (10 ^ (k + more)) < 10 ^ 34 → Found n k (whole_cut_from more n k)
found zero n k h = let same : k + 0 ≡ k = omega arith in (subst (λ m. nearest n (10 ^ m) < 10 ^ 34) same h, omega arith, λ i l m. absurd (omega (arith, l, m)))
found (suc more) n k h = by (nat_lt (nearest n (10 ^ k)) (10 ^ 34)) refl (found more n (suc k) (let next : k + suc more ≡ suc k + more = omega arith in subst (λ m. nearest n (10 ^ m) < 10 ^ 34) next h))
  where
    under : nat_lt (nearest n (10 ^ k)) (10 ^ 34) ≡ true → nearest n (10 ^ k) < 10 ^ 34
    under t = grind (arith, nat_tests)

    over : nat_lt (nearest n (10 ^ k)) (10 ^ 34) ≡ false → 10 ^ 34 ≤ nearest n (10 ^ k)
    over t = grind (arith, nat_tests)

    here : nat_lt (nearest n (10 ^ k)) (10 ^ 34) ≡ false → Found n (suc k) (whole_cut_from more n (suc k)) → (i : ℕ) → (i < suc k) ⊎ (suc k ≤ i) → k ≤ i → i < whole_cut_from more n (suc k) → 10 ^ 34 ≤ nearest n (10 ^ i)
    here t rest i (inl lt) l m = let same : k ≡ i = omega arith in subst (λ m. 10 ^ 34 ≤ nearest n (10 ^ m)) same (over t)
    here t rest i (inr ge) l m = rest.2 i ge m

    by : (b : Bool) → nat_lt (nearest n (10 ^ k)) (10 ^ 34) ≡ b → Found n (suc k) (whole_cut_from more n (suc k)) → Found n k (if b then k else whole_cut_from more n (suc k))
    by true t rest = (under t, omega arith, λ i l m. absurd (omega (arith, l, m)))
    by false t rest = (rest.0, omega (arith, rest.1), λ i l m. here t rest i (cases_lt i (suc k)) l m)

-- a great number is cut, and not of all its digits
some_cut : (m cut : ℕ) → 10 ^ 34 ≤ m → Found m 0 cut → 0 < cut
some_cut m zero h f = let least : m / 1 ≤ nearest m 1 = nearest_least m 1 in let less : nearest m 1 < 10 ^ 34 = f.0 in absurd (omega (arith, least, less, h))
some_cut m (suc cut) h f = omega arith

cut_most : (m cut : ℕ) → m < 10 ^ 68 → Found m 0 cut → cut ≤ 69
cut_most m cut h f = by (cases_lt 69 cut)
  where
    by : (69 < cut) ⊎ (cut ≤ 69) → cut ≤ 69
    by (inr le) = le
    by (inl lt) = let none = nearest_nothing m 69 h (lit< tt) in let great = f.2 69 (omega arith) lt in absurd (omega (arith, none, great))

nearest_scaled : (n m g j : ℕ) → ((e : ℕ) → 0 < e → nearest n (10 ^ g * (10 * e)) ≡ nearest m (10 * e)) → 0 < j → nearest n (10 ^ (g + j)) ≡ nearest m (10 ^ j)
nearest_scaled n m g j close h =
    let next : j ≡ suc (j - 1) = omega arith in
    let ten : 10 ^ j ≡ 10 * 10 ^ (j - 1) = ap (λ n. 10 ^ n) next ∙ pow-suc 10 (j - 1) ∙ mul_comm (10 ^ (j - 1)) 10 in
    ap (λ d. nearest n d) (pow-add 10 g j ∙ ap (λ d. 10 ^ g * d) ten) ∙ close (10 ^ (j - 1)) (some_power (j - 1)) ∙ sym (ap (λ d. nearest m d) ten)

cut_scaled : (n m g cut : ℕ) → g < 12288 → m < 10 ^ 68 → 10 ^ 34 ≤ m → 10 ^ 34 * 10 ^ g ≤ n → ((e : ℕ) → 0 < e → nearest n (10 ^ g * (10 * e)) ≡ nearest m (10 * e)) → Found m 0 cut
    → whole_cut_from n n 0 ≡ g + cut
cut_scaled n m g cut hg hm low great close f =
    ends_at n n 0 (g + cut) room before (subst (λ k. nearest n (10 ^ k) < 10 ^ 34) (sym zero_more) (subst (λ v. v < 10 ^ 34) (sym (nearest_scaled n m g cut close some)) f.0)) ∙ zero_more
  where
    some : 0 < cut
    some = some_cut m cut low f

    zero_more : 0 + (g + cut) ≡ g + cut
    zero_more = omega arith

    room : g + cut ≤ n
    room =
        let most = cut_most m cut hm f in
        let one = some_power g in
        let up : 10 ^ 34 * 1 ≤ 10 ^ 34 * 10 ^ g = mul-le (10 ^ 34) 1 (10 ^ 34) (10 ^ g) (omega arith) one in
        omega (arith, most, up, great, hg)

    at : (i : ℕ) → i < g + cut → (g < i) ⊎ (i ≤ g) → 10 ^ 34 ≤ nearest n (10 ^ i)
    at i lt (inl more) =
        let whole : g + (i - g) ≡ i = omega arith in
        let over = f.2 (i - g) (omega arith) (omega arith) in
        subst (λ k. 10 ^ 34 ≤ nearest n (10 ^ k)) whole (subst (λ v. 10 ^ 34 ≤ v) (sym (nearest_scaled n m g (i - g) close (omega arith))) over)
    at i lt (inr le) =
        let up : 10 ^ i ≤ 10 ^ g = pow-le-pow_right (lit< tt) le in
        let step : 10 ^ 34 * 10 ^ i ≤ 10 ^ 34 * 10 ^ g = mul-le (10 ^ 34) (10 ^ i) (10 ^ 34) (10 ^ g) (omega arith) up in
        le_trans (le-div (10 ^ 34) n (10 ^ i) (some_power i) (le_trans step great)) (nearest_least n (10 ^ i))

    before : (i : ℕ) → i < g + cut → 10 ^ 34 ≤ nearest n (10 ^ (0 + i))
    before i lt = let same : i ≡ 0 + i = omega arith in subst (λ k. 10 ^ 34 ≤ nearest n (10 ^ k)) same (at i lt (cases_lt g i))

pub decimal_scaled : (s : Bool) (n m x g : ℕ) → 12352 ≤ x → g < 12288 → m < 10 ^ 68 → 10 ^ 34 ≤ m → 10 ^ 34 * 10 ^ g ≤ n → ((e : ℕ) → 0 < e → nearest n (10 ^ g * (10 * e)) ≡ nearest m (10 * e))
    → decimal_of s m (x + g) ≡ decimal_of s n x
decimal_scaled s n m x g hx hg hm low great close =
    sym (decimal_is s m (x + g))
    ∙ ap (λ k. cut_whole s m (x + g) (whole_cut_from m m k)) none2
    ∙ ap (λ v. clamp s v (x + g + whole_cut_from m m 0 - 12352)) (sym (nearest_scaled n m g (whole_cut_from m m 0) close some))
    ∙ ap (λ y. clamp s (nearest n (10 ^ (g + whole_cut_from m m 0))) (y - 12352)) turned
    ∙ ap (λ k. cut_whole s n x k) (sym (cut_scaled n m g (whole_cut_from m m 0) hg hm low great close f))
    ∙ ap (λ k. cut_whole s n x (whole_cut_from n n k)) (sym none)
    ∙ decimal_is s n x
  where
    none2 : 12352 - (x + g) ≡ 0
    none2 = omega arith

    none : 12352 - x ≡ 0
    none = omega arith

    f : Found m 0 (whole_cut_from m m 0)
    f = found m m 0 (let same : 0 + m ≡ m = omega arith in let z = nearest_nothing m m hm (omega arith) in subst (λ k. nearest m (10 ^ k) < 10 ^ 34) (sym same) (omega (arith, z)))

    some : 0 < whole_cut_from m m 0
    some = some_cut m (whole_cut_from m m 0) low f

    turned : x + g + whole_cut_from m m 0 ≡ x + (g + whole_cut_from m m 0)
    turned = omega arith

-- ---- a sum beside a much greater number

close_scaled : (s : Bool) (n m x g b r k : ℕ) → 12352 ≤ x → g < 12288 → n ≡ b * 10 ^ g + r → m ≡ b + k → 10 ^ 65 ≤ b → m < 10 ^ 68 → r < 10 ^ g → k ≤ 1
    → (r ≡ 0 → k ≡ 0) → (0 < r → b % 5 ≡ 0 → k ≡ 1) → (0 < r → b % 5 ≡ 4 → k ≡ 0) → decimal_of s m (x + g) ≡ decimal_of s n x
close_scaled s n m x g b r k hx hg en em great small hr one none tie under =
    decimal_scaled s n m x g hx hg small (omega (arith, great, em)) high close
  where
    high : 10 ^ 34 * 10 ^ g ≤ n
    high = let step : 10 ^ 34 * 10 ^ g ≤ b * 10 ^ g = mul-le-mul_right (10 ^ g) (omega (arith, great)) in omega (arith, step, en)

    close : (e : ℕ) → 0 < e → nearest n (10 ^ g * (10 * e)) ≡ nearest m (10 * e)
    close e he = ap (λ n. nearest n (10 ^ g * (10 * e))) en ∙ nearest_close b (10 ^ g) r e k (some_power g) he hr one none tie under ∙ ap (λ n. nearest n (10 * e)) (sym em)

-- what is added to the whole part
unfoldable pub addend : ℕ → ℕ → ℕ
addend r q = if r == 0 then 0 else if q % 5 == 0 then 1 else 0

pub addend_none : (r q : ℕ) → r ≡ 0 → addend r q ≡ 0
unfolding addend
addend_none r q h = let t : (r == 0) ≡ true = grind (arith, nat_tests) in ap (λ b. if b then 0 else if q % 5 == 0 then 1 else 0) t

pub addend_tie : (r q : ℕ) → 0 < r → q % 5 ≡ 0 → addend r q ≡ 1
unfolding addend
addend_tie r q h f =
    let t : (r == 0) ≡ false = grind (arith, nat_tests) in
    let v : (q % 5 == 0) ≡ true = grind (arith, nat_tests) in
    ap (λ b. if b then 0 else if q % 5 == 0 then 1 else 0) t ∙ ap (λ b. if b then 1 else 0) v

pub addend_off : (r q : ℕ) → 0 < r → 0 < q % 5 → addend r q ≡ 0
unfolding addend
addend_off r q h f =
    let t : (r == 0) ≡ false = grind (arith, nat_tests) in
    let v : (q % 5 == 0) ≡ false = grind (arith, nat_tests) in
    ap (λ b. if b then 0 else if q % 5 == 0 then 1 else 0) t ∙ ap (λ b. if b then 1 else 0) v

pub addend_one : (r q : ℕ) → addend r q ≤ 1
unfolding addend
addend_one r q = by (r == 0) (q % 5 == 0)
  where
    by : (b c : Bool) → (if b then 0 else if c then 1 else 0) ≤ 1
    by true c = omega arith
    by false true = omega arith
    by false false = omega arith

pub sticky_addend : (q r : ℕ) → sticky q r ≡ q + addend r q
unfolding addend
sticky_addend q r = refl

sticky_is : (d p : ℕ) → sticky_quotient d p ≡ d / p + addend (d % p) (d / p)
unfolding addend
sticky_is d p = refl

-- the greater one and the smaller one
sum_scaled : (s : Bool) (a d x g : ℕ) → 12352 ≤ x → g < 12288 → a % 10 ≡ 0 → 10 ^ 66 ≤ a → a + 10 ^ 34 ≤ 10 ^ 68 → sticky_quotient d (10 ^ g) < 10 ^ 34 → d < 10 ^ 34 → decimal_of s (a + sticky_quotient d (10 ^ g)) (x + g) ≡ decimal_of s (a * 10 ^ g + d) x
sum_scaled s a d x g hx hg ten great small low hd =
    close_scaled s (a * 10 ^ g + d) (a + sticky_quotient d (10 ^ g)) x g (a + q) r k hx hg whole (ap (λ n. a + n) (sticky_is d (10 ^ g)) ∙ assoc) (omega (arith, great)) room (mod-lt d (some_power g)) (addend_one r q)
    (λ z. addend_none r q z) (λ h f. addend_tie r q h (let v = five in omega (arith, v, f))) (λ h f. addend_off r q h (let v = five in omega (arith, v, f)))
  where
    q : ℕ
    q = d / 10 ^ g

    r : ℕ
    r = d % 10 ^ g

    k : ℕ
    k = addend (d % 10 ^ g) (d / 10 ^ g)

    turn : (a q p r : ℕ) → a * p + (q * p + r) ≡ (a + q) * p + r
    turn a q p r = grind arith

    whole : a * 10 ^ g + d ≡ (a + d / 10 ^ g) * 10 ^ g + d % 10 ^ g
    whole = ap (λ n. a * 10 ^ g + n) (sym (div-add-mod' d (10 ^ g))) ∙ turn a (d / 10 ^ g) (10 ^ g) (d % 10 ^ g)

    assoc : a + (d / 10 ^ g + addend (d % 10 ^ g) (d / 10 ^ g)) ≡ a + d / 10 ^ g + addend (d % 10 ^ g) (d / 10 ^ g)
    assoc = omega arith

    five : (a + d / 10 ^ g) % 5 ≡ d / 10 ^ g % 5
    five = omega (arith, ten)

    room : a + sticky_quotient d (10 ^ g) < 10 ^ 68
    room = omega (arith, small, low)

difference_scaled : (s : Bool) (a d x g : ℕ) → 12352 ≤ x → g < 12288 → a % 10 ≡ 0 → 10 ^ 66 ≤ a → a < 10 ^ 68 → d < 10 ^ 34 → decimal_of s (a - sticky_quotient d (10 ^ g)) (x + g) ≡ decimal_of s (a * 10 ^ g - d) x
difference_scaled s a d x g hx hg ten great small hd = by (cases_lt 0 (d % 10 ^ g))
  where
    le : d / 10 ^ g ≤ d
    le = div-le_self d (10 ^ g)

    split : d / 10 ^ g * 10 ^ g + d % 10 ^ g ≡ d
    split = div-add-mod' d (10 ^ g)

    whole_part : (a q p r d : ℕ) → q ≤ a → q * p + r ≡ d → r ≡ 0 → a * p - d ≡ (a - q) * p + 0
    whole_part a q p r d h e z =
        let back : a - q + q ≡ a = omega arith in
        let out : (a - q + q) * p ≡ (a - q) * p + q * p = grind arith in
        let same : (a - q + q) * p ≡ a * p = ap (λ n. n * p) back in
        omega (arith, out, same, e, z)

    some_part : (a q p r d : ℕ) → q + 1 ≤ a → r < p → q * p + r ≡ d → a * p - d ≡ (a - q - 1) * p + (p - r)
    some_part a q p r d h l e =
        let back : a - q - 1 + (q + 1) ≡ a = omega arith in
        let out : (a - q - 1 + (q + 1)) * p ≡ (a - q - 1) * p + (q * p + p) = grind arith in
        let same : (a - q - 1 + (q + 1)) * p ≡ a * p = ap (λ n. n * p) back in
        omega (arith, out, same, e, l)

    by : (0 < d % 10 ^ g) ⊎ (d % 10 ^ g ≤ 0) → decimal_of s (a - sticky_quotient d (10 ^ g)) (x + g) ≡ decimal_of s (a * 10 ^ g - d) x
    by (inr z) =
        let zero_rest : d % 10 ^ g ≡ 0 = omega arith in
        let none = addend_none (d % 10 ^ g) (d / 10 ^ g) zero_rest in
        let is = sticky_is d (10 ^ g) in
        let l = le in
        close_scaled s (a * 10 ^ g - d) (a - sticky_quotient d (10 ^ g)) x g (a - d / 10 ^ g) 0 0 hx hg
        (whole_part a (d / 10 ^ g) (10 ^ g) (d % 10 ^ g) d (omega (arith, l, great, hd)) split zero_rest) (omega (arith, is, none)) (omega (arith, l, great, hd)) (omega (arith, small)) (some_power g) (omega arith)
        (λ z. refl) (λ h f. absurd (omega (arith, h))) (λ h f. refl)
    by (inl some) =
        let is = sticky_is d (10 ^ g) in
        let one = addend_one (d % 10 ^ g) (d / 10 ^ g) in
        let l = le in
        let less : d % 10 ^ g < 10 ^ g = mod-lt d (some_power g) in
        close_scaled s (a * 10 ^ g - d) (a - sticky_quotient d (10 ^ g)) x g (a - d / 10 ^ g - 1) (10 ^ g - d % 10 ^ g) (1 - addend (d % 10 ^ g) (d / 10 ^ g)) hx hg
        (some_part a (d / 10 ^ g) (10 ^ g) (d % 10 ^ g) d (omega (arith, l, great, hd)) less split) (omega (arith, is, one, l, great, hd)) (omega (arith, l, great, hd)) (omega (arith, small)) (omega (arith, some, less)) (omega arith)
        (λ z. absurd (omega (arith, z, less)))
        (λ h f. let off = addend_off (d % 10 ^ g) (d / 10 ^ g) some (omega (arith, f, ten, l, great, hd)) in omega (arith, off))
        (λ h f. let up = addend_tie (d % 10 ^ g) (d / 10 ^ g) some (omega (arith, f, ten, l, great, hd)) in omega (arith, up))

apart_scaled : (s t : Bool) (a d x g : ℕ) → 12352 ≤ x → g < 12288 → a % 10 ≡ 0 → 10 ^ 66 ≤ a → a < 10 ^ 68 → d < 10 ^ 34
    → match_ordering (nat_cmp a (sticky_quotient d (10 ^ g))) (decimal_of t (sticky_quotient d (10 ^ g) - a) (x + g)) (decimal_of false 0 (x + g)) (decimal_of s (a - sticky_quotient d (10 ^ g)) (x + g))
    ≡ match_ordering (nat_cmp (a * 10 ^ g) d) (decimal_of t (d - a * 10 ^ g) x) (decimal_of false 0 x) (decimal_of s (a * 10 ^ g - d) x)
apart_scaled s t a d x g hx hg ten great small hd =
    let is = sticky_is d (10 ^ g) in
    let one = addend_one (d % 10 ^ g) (d / 10 ^ g) in
    let l = div-le_self d (10 ^ g) in
    let step : a * 1 ≤ a * 10 ^ g = mul-le a 1 a (10 ^ g) (omega arith) (some_power g) in
    let first : Greater ≡ nat_cmp a (sticky_quotient d (10 ^ g)) = nat_cmp_is a (sticky_quotient d (10 ^ g)) Greater (omega (arith, is, one, l, great, hd)) in
    let second : Greater ≡ nat_cmp (a * 10 ^ g) d = nat_cmp_is (a * 10 ^ g) d Greater (omega (arith, step, great, hd)) in
    sym (ap (λ o. match_ordering o (decimal_of t (sticky_quotient d (10 ^ g) - a) (x + g)) (decimal_of false 0 (x + g)) (decimal_of s (a - sticky_quotient d (10 ^ g)) (x + g))) first)
    ∙ difference_scaled s a d x g hx hg ten great small hd
    ∙ ap (λ o. match_ordering o (decimal_of t (d - a * 10 ^ g) x) (decimal_of false 0 x) (decimal_of s (a * 10 ^ g - d) x)) second

signed_sum_scaled : (s t : Bool) (a d x g : ℕ) → 12352 ≤ x → g < 12288 → a % 10 ≡ 0 → 10 ^ 66 ≤ a → a + 10 ^ 34 ≤ 10 ^ 68 → sticky_quotient d (10 ^ g) < 10 ^ 34 → d < 10 ^ 34
    → signed_sum s a t (sticky_quotient d (10 ^ g)) (x + g) ≡ signed_sum s (a * 10 ^ g) t d x
signed_sum_scaled true true a d x g hx hg ten great small low hd = sum_scaled true a d x g hx hg ten great small low hd
signed_sum_scaled false false a d x g hx hg ten great small low hd = sum_scaled false a d x g hx hg ten great small low hd
signed_sum_scaled true false a d x g hx hg ten great small low hd = apart_scaled true false a d x g hx hg ten great (omega (arith, small)) hd
signed_sum_scaled false true a d x g hx hg ten great small low hd = apart_scaled false true a d x g hx hg ten great (omega (arith, small)) hd

-- as the code has it
pub signed_sum_beyond : (s t : Bool) (c d f m b : ℕ) → c < 10 ^ 34 → 10 ^ 33 ≤ c → d < 10 ^ 34 → f + m < 12288 → b < 10 ^ 34 → b ≡ sticky_quotient d (10 ^ m)
    → signed_sum s (c * 10 ^ 34 + 0) t (0 * 10 ^ 34 + b) (f + m + 12352) ≡ signed_sum s (c * 10 ^ 34 * 10 ^ m) t d (f + 12352)
signed_sum_beyond s t c d f m b hc full hd range low e =
    let no_low : c * 10 ^ 34 + 0 ≡ c * 10 ^ 34 = omega arith in
    let no_high : 0 * 10 ^ 34 + b ≡ b = omega arith in
    let turned : f + m + 12352 ≡ f + 12352 + m = omega arith in
    ap (λ n. signed_sum s n t (0 * 10 ^ 34 + b) (f + m + 12352)) no_low ∙ ap (λ n. signed_sum s (c * 10 ^ 34) t n (f + m + 12352)) (no_high ∙ e)
    ∙ ap (λ x. signed_sum s (c * 10 ^ 34) t (sticky_quotient d (10 ^ m)) x) turned
    ∙ signed_sum_scaled s t (c * 10 ^ 34) d (f + 12352) m (omega arith) (omega arith) (omega arith) (omega arith) (omega arith) (subst (λ n. n < 10 ^ 34) e low) hd

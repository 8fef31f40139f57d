-- Values of digits as they are read.
use Rattle.std.proofs.Common.{◌≡◌, ℕ, zero, suc, ◌+◌, ◌-◌, ◌*◌, ◌^◌, ◌<◌, ◌≤◌, ◌&&◌, ◌==◌, ◌++◌, inl, inr, min, Bool, true, false, List, [], ◌∷◌, drop, length, get_or, replicate, add-zero, refl, sym, ap, ◌∙◌, arith, add-one}
use Rattle.std.specs.Char.{is_ascii_digit, digit_value}
use Rattle.std.proofs.lemmas.Bool.{cases_lt, and_parts}
use Rattle.std.proofs.Math.Nat.{pow-le-pow_right, pow-suc}
use Rattle.std.proofs.Math.Seq.{drop-append-add}
use Rattle.std.proofs.lemmas.List.{drop-append-le, drop_all}
use Rattle.bson_base.specs.Decimal.{value, value_after, all_digits, all_zeros, strip}
use Rattle.bson_base.proofs.PrintedDecimalLemmas.{value_after-append}

-- a value never gets less
value_grows : (n : ℕ) (ds : List ℕ) → n ≤ value_after n ds
value_grows n [] = omega arith
value_grows n (c ∷ cs) = omega (arith, value_grows (n * 10 + digit_value c) cs)

pub capped : (n : ℕ) (ds : List ℕ) → min (value_after (min n 100000) ds) 100000 ≡ min (value_after n ds) 100000
capped n ds =
    elim (cases_lt n 100000) [
      | inl small ↦ let e : min n 100000 ≡ n = omega arith in rw e refl
      | inr large ↦ omega (arith, value_grows (min n 100000) ds, value_grows n ds)
    ]

-- one digit more
pub one_more : (n i : ℕ) (ds : List ℕ) → i < length ds → all_digits (drop i ds) ≡ true
    → (value_after n (drop i ds) ≡ value_after (n * 10 + (get_or ds i 0 - 48)) (drop (i + 1) ds)) × (all_digits (drop (i + 1) ds) ≡ true) × (48 ≤ get_or ds i 0) × (get_or ds i 0 ≤ 57)
one_more n i [] h all = absurd (omega arith)
one_more n zero (c ∷ cs) h all =
    let t = and_parts (is_ascii_digit c) (all_digits cs) all in
    let digit : is_ascii_digit c ≡ true = t.0 in
    let low : 48 ≤ c = grind arith in
    let high : c ≤ 57 = grind arith in
    let is : digit_value c ≡ c - 48 = grind arith in
    (ap (λ d. value_after (n * 10 + d) cs) is, t.1, low, high)
one_more n (suc i) (c ∷ cs) h all =
    let more = one_more n i cs (omega arith) all in
    simp add-one (simp add-one at more)

pub below_power : (n i : ℕ) → n < 10 ^ i → i ≤ 33 → n < 10 ^ 33
below_power n i h few = let p : 10 ^ i ≤ 10 ^ 33 = pow-le-pow_right {n = 10} (omega arith) {i = i} {j = 33} few in omega arith

pub below_last_power : (n i : ℕ) → n < 10 ^ i → i ≤ 34 → n < 10 ^ 34
below_last_power n i h few = let p : 10 ^ i ≤ 10 ^ 34 = pow-le-pow_right {n = 10} (omega arith) {i = i} {j = 34} few in omega arith

-- one digit more
pub power_step : (n c i j : ℕ) → n < 10 ^ i → c ≤ 57 → j ≡ suc i → n * 10 + (c - 48) < 10 ^ j
power_step n c i j h digit next = let p : 10 ^ suc i ≡ 10 ^ i * 10 = pow-suc 10 i in rw next (omega arith)

pub small_step : (all : ℕ) (n i c : ℕ) (ds : List ℕ) → min all 100000 ≡ min (value_after n (drop i ds)) 100000 → i < length ds → all_digits (drop i ds) ≡ true → get_or ds i 0 ≡ c
    → min all 100000 ≡ min (value_after (min (n * 10 + (c - 48)) 100000) (drop (i + 1) ds)) 100000
small_step all n i c ds kept h digits is =
    let more = (one_more n i ds h digits).0 in
    kept ∙ ap (λ v. min v 100000) (more ∙ ap (λ d. value_after (n * 10 + (d - 48)) (drop (i + 1) ds)) is) ∙ sym (capped (n * 10 + (c - 48)) (drop (i + 1) ds))

-- one digit stays
some_stripped : (c : ℕ) (cs : List ℕ) → strip (c ∷ cs) ≡ [] → ⊥
some_stripped c [] e = let n = ap length e in omega arith
some_stripped c (d ∷ ds) e = by (c == 48) refl (some_stripped d ds) where
  by : (x : Bool) → (c == 48) ≡ x → (strip (d ∷ ds) ≡ [] → ⊥) → ⊥
  by true q later = later (rw q at e)
  by false q later = let none : c ∷ d ∷ ds ≡ [] = rw q at e in let n = ap length none in omega arith

-- only no digits leave none
pub all_stripped : (t : List ℕ) (i : ℕ) → length t ≤ i → strip t ≡ strip (drop i t) → t ≡ strip t
all_stripped [] i h e = refl
all_stripped (c ∷ cs) i h e = absurd (some_stripped c cs (e ∙ ap strip (drop_all i (c ∷ cs) h)))

-- ---- digits in two runs

and_assoc : (x y a b : Bool) → y ≡ a && b → x && y ≡ (x && a) && b
and_assoc true y a b h = h
and_assoc false y a b h = refl

pub all_digits-both : (a b : List ℕ) → all_digits (a ++ b) ≡ all_digits a && all_digits b
all_digits-both [] b = refl
all_digits-both (c ∷ cs) b = and_assoc (is_ascii_digit c) (all_digits (cs ++ b)) (all_digits cs) (all_digits b) (all_digits-both cs b)

pub all_zeros-both : (a b : List ℕ) → all_zeros (a ++ b) ≡ all_zeros a && all_zeros b
all_zeros-both [] b = refl
all_zeros-both (c ∷ cs) b = and_assoc (c == 48) (all_zeros (cs ++ b)) (all_zeros cs) (all_zeros b) (all_zeros-both cs b)

pub all_zeros-drop_front : (k : ℕ) (a b : List ℕ) → k ≤ length a → all_zeros (drop k (a ++ b)) ≡ all_zeros (drop k a) && all_zeros b
all_zeros-drop_front k a b h = ap all_zeros (drop-append-le k a b h) ∙ all_zeros-both (drop k a) b

pub all_zeros-drop_back : (k : ℕ) (a b : List ℕ) → length a < k → all_zeros (drop k (a ++ b)) ≡ all_zeros (drop (k - length a) b)
all_zeros-drop_back k a b h = let e : length a + (k - length a) ≡ k = omega arith in ap (λ n. all_zeros (drop n (a ++ b))) (sym e) ∙ ap all_zeros (drop-append-add a b (k - length a))

pub strip-front_zeros : (a b : List ℕ) → all_zeros a ≡ true → (length b ≡ 0 → ⊥) → strip (a ++ b) ≡ strip b
strip-front_zeros [] b h some = refl
strip-front_zeros (c ∷ []) [] h some = absurd (some refl)
strip-front_zeros (c ∷ []) (d ∷ ds) h some = rw (and_parts (c == 48) true h).0 refl
strip-front_zeros (c ∷ d ∷ cs) b h some =
    let parts = and_parts (c == 48) (all_zeros (d ∷ cs)) h in
    rw parts.0 (strip-front_zeros (d ∷ cs) b parts.1 some)

pub strip-front_kept : (a b : List ℕ) → all_zeros a ≡ false → strip (a ++ b) ≡ strip a ++ b
strip-front_kept [] b h = cc h
strip-front_kept (c ∷ []) [] h = refl
strip-front_kept (c ∷ []) (d ∷ ds) h = by (c == 48) refl where
  by : (x : Bool) → (c == 48) ≡ x → strip (c ∷ d ∷ ds) ≡ c ∷ d ∷ ds
  by true e = let f : true ≡ false = rw e at h in cc f
  by false e = rw e refl
strip-front_kept (c ∷ d ∷ cs) b h = by (c == 48) refl (strip-front_kept (d ∷ cs) b) where
  by : (x : Bool) → (c == 48) ≡ x → (all_zeros (d ∷ cs) ≡ false → strip (d ∷ cs ++ b) ≡ strip (d ∷ cs) ++ b) → strip (c ∷ d ∷ (cs ++ b)) ≡ strip (c ∷ d ∷ cs) ++ b
  by true e more = rw e (more (rw e at h))
  by false e more = rw e refl

pub all_digits-strip : (ds : List ℕ) → all_digits ds ≡ true → all_digits (strip ds) ≡ true
all_digits-strip [] h = h
all_digits-strip (c ∷ []) h = h
all_digits-strip (c ∷ d ∷ ds) h = by (c == 48) refl (all_digits-strip (d ∷ ds)) where
  by : (x : Bool) → (c == 48) ≡ x → (all_digits (d ∷ ds) ≡ true → all_digits (strip (d ∷ ds)) ≡ true) → all_digits (strip (c ∷ d ∷ ds)) ≡ true
  by true e more = rw e (more (and_parts (is_ascii_digit c) (all_digits (d ∷ ds)) h).1)
  by false e more = rw e h

-- one zero more
pub zeros_step : (n k j : ℕ) → k ≡ suc j → value_after n (replicate k 48) ≡ value_after (n * 10) (replicate j 48)
zeros_step n k j h = ap (λ i. value_after n (replicate i 48)) h ∙ ap (λ m. value_after m (replicate j 48)) (add-zero (n * 10))

pub value_after-zeros : (ds : List ℕ) (m : ℕ) → value_after (value ds) (replicate m 48) ≡ value (ds ++ replicate m 48)
value_after-zeros ds m = sym (value_after-append 0 ds (replicate m 48))

-- Sums, counts and the best one of values that are gone through from the front.
use Rattle.std.proofs.Common.{◌≡◌, ◌∙◌, inl, ◌+◌, ◌-◌, ◌<◌, ◌≤◌, ◌+ℤ◌, ℕ, suc, Bor, List, [], ◌∷◌, length, get_or, map, drop, slice_get, Bool, true, false, not, cond, Option, Some, None, option_map, option_copied, Result, Ok, Err, refl, sym, ap, arith}
use Rattle.std.specs.Prelude.{unwrap_or}
use Rattle.std.specs.List.{filter}
use Rattle.std.specs.Float.{binary64}
use Rattle.std.specs.Float.Ieee.{add}
use Rattle.bson_base.specs.Value.{Value, scalar, null}
use Rattle.bson_model.specs.View.{view}
use Rattle.bson_model.specs.declared.bson.Bson.{Bson}
use Rattle.store_pipeline.specs.Order.{best, better}
use Rattle.store_update.proofs.UpdateLemmas.{drop_at, drop_end}
use Rattle.store_update.specs.Answer.{lent}
use Rattle.store_update.specs.Number.{computed, divided, is_number, onward}
use Rattle.store_update.specs.Update.{Tells}
use Rattle.store_update.specs.declared.error.UpdateError.{UpdateError}
use Rattle.store_pipeline.specs.Groups.{average_of, first_of, is_null, last_of, sum_from, sum_of}

-- as the definition says, whatever that is
pub tells_same : {A : Type 0} (says r : Result A UpdateError) → r ≡ says → Tells says r
tells_same says (Ok a) e = sym e
tells_same says (Err f) e = inl (sym e)

-- ---- sums

abbrev numbers : List Value → List Value
numbers vs = filter is_number vs

abbrev plus : Value → Value → Result Value UpdateError
plus v w = computed (λ x y. x +ℤ y) (add binary64) v w

onward_same : {A : Type 0} (r : Result A UpdateError) → onward r (λ a. Ok a) ≡ r
onward_same (Ok a) = refl
onward_same (Err e) = refl

pub no_term : (t w : Value) → is_number w ≡ false → Ok t ≡ sum_from t (numbers (w ∷ []))
no_term t w e = sym (ap (λ b. sum_from t (cond b (w ∷ []) [])) e)

pub one_term : (t w : Value) (r : Result Value UpdateError) → is_number w ≡ true → r ≡ plus t w → r ≡ sum_from t (numbers (w ∷ []))
one_term t w r e is = is ∙ sym (ap (λ b. sum_from t (cond b (w ∷ []) [])) e ∙ onward_same (plus t w))

first_term : (t w : Value) (vs : List Value) → sum_from t (numbers (w ∷ vs)) ≡ onward (sum_from t (numbers (w ∷ []))) (λ s. sum_from s (numbers vs))
first_term t w vs = by (is_number w)
  where
    by_sum : (r : Result Value UpdateError) → onward r (λ s. sum_from s (numbers vs)) ≡ onward (onward r (λ s. Ok s)) (λ s. sum_from s (numbers vs))
    by_sum (Ok s) = refl
    by_sum (Err e) = refl

    by : (b : Bool) → sum_from t (cond b (w ∷ numbers vs) (numbers vs)) ≡ onward (sum_from t (cond b (w ∷ []) [])) (λ s. sum_from s (numbers vs))
    by true = by_sum (plus t w)
    by false = refl

module _ (values : List Bson) (i : ℕ) (x : Bson) (whole : Result Value UpdateError) (now : Value) (low : i < length values) (at : x ≡ get_or values i x) (so_far : whole ≡ sum_from now (numbers (map view (drop i values)))) where
  next_term : whole ≡ onward (sum_from now (numbers (view x ∷ []))) (λ s. sum_from s (numbers (map view (drop (i + 1) values))))
  next_term = so_far ∙ ap (λ bs. sum_from now (numbers (map view bs))) (drop_at values i x low at) ∙ first_term now (view x) (map view (drop (i + 1) values))

  pub sum_on : (next : Value) → Ok next ≡ sum_from now (numbers (view x ∷ [])) → whole ≡ sum_from next (numbers (map view (drop (i + 1) values)))
  sum_on next is = next_term ∙ sym (ap (λ r. onward r (λ s. sum_from s (numbers (map view (drop (i + 1) values))))) is)

  pub sum_stops : (e : UpdateError) → Err e ≡ sum_from now (numbers (view x ∷ [])) → Err e ≡ whole
  sum_stops e is = ap (λ r. onward r (λ s. sum_from s (numbers (map view (drop (i + 1) values))))) is ∙ sym next_term

pub sum_ends : (values : List Bson) (i : ℕ) (whole : Result Value UpdateError) (now : Value) → length values ≤ i → whole ≡ sum_from now (numbers (map view (drop i values))) → Ok now ≡ whole
sum_ends values i whole now end h = sym (h ∙ ap (λ bs. sum_from now (numbers (map view bs))) (drop_end values i end))

-- ---- counts

module _ (values : List Bson) (i : ℕ) (x : Bson) (count : ℕ) (low : i < length values) (at : x ≡ get_or values i x) (so_far : length (numbers (map view values)) ≡ count + length (numbers (map view (drop i values)))) where
  abbrev rest : ℕ
  rest = length (numbers (map view (drop (i + 1) values)))

  next_count : length (numbers (map view values)) ≡ count + length (cond (is_number (view x)) (view x ∷ numbers (map view (drop (i + 1) values))) (numbers (map view (drop (i + 1) values))))
  next_count = so_far ∙ ap (λ bs. count + length (numbers (map view bs))) (drop_at values i x low at)

  pub counts_one : is_number (view x) ≡ true → length (numbers (map view values)) ≡ (count + 1) + rest
  counts_one e = let is = next_count ∙ ap (λ b. count + length (cond b (view x ∷ numbers (map view (drop (i + 1) values))) (numbers (map view (drop (i + 1) values))))) e in omega (arith, is)

  pub counts_none : is_number (view x) ≡ false → length (numbers (map view values)) ≡ count + rest
  counts_none e = next_count ∙ ap (λ b. count + length (cond b (view x ∷ numbers (map view (drop (i + 1) values))) (numbers (map view (drop (i + 1) values))))) e

pub count_ends : (values : List Bson) (i count : ℕ) → length values ≤ i → length (numbers (map view values)) ≡ count + length (numbers (map view (drop i values))) → count ≡ length (numbers (map view values))
count_ends values i count end h = let none = ap (λ bs. length (numbers (map view bs))) (drop_end values i end) in omega (arith, h, none)

-- ---- averages

pub none_averaged : (vs : List Value) (n : ℕ) → n ≡ length vs → n ≡ 0 → Ok (scalar null) ≡ average_of vs
none_averaged [] n long e = refl
none_averaged (v ∷ vs) n long e = absurd (omega (arith, long, e))

pub averaged : (vs : List Value) (n : ℕ) (t : Value) (r : Result Value UpdateError) → n ≡ length vs → (n ≡ 0 → ⊥) → Ok t ≡ sum_of vs → r ≡ divided n t → r ≡ average_of vs
averaged [] n t r long some sum is = absurd (some long)
averaged (v ∷ vs) n t r long some sum is = is ∙ ap (λ m. divided m t) long ∙ ap (λ s. onward s (divided (length (v ∷ vs)))) sum

pub not_averaged : (vs : List Value) (n : ℕ) (e : UpdateError) → n ≡ length vs → (n ≡ 0 → ⊥) → Err e ≡ sum_of vs → Err e ≡ average_of vs
not_averaged [] n e long some sum = absurd (some long)
not_averaged (v ∷ vs) n e long some sum = ap (λ s. onward s (divided (length (v ∷ vs)))) sum

-- ---- the best one

abbrev others : List Value → List Value
others vs = filter (λ v. not (is_null v)) vs

module _ (greatest : Bool) (values : List Bson) (i : ℕ) (x : Bson) (met : Option Value) (whole : Option Value) (low : i < length values) (at : x ≡ get_or values i x) (so_far : whole ≡ best greatest met (others (map view (drop i values)))) where
  next_best : whole ≡ best greatest met (cond (not (is_null (view x))) (view x ∷ others (map view (drop (i + 1) values))) (others (map view (drop (i + 1) values))))
  next_best = so_far ∙ ap (λ bs. best greatest met (others (map view bs))) (drop_at values i x low at)

  pub best_on : (y : Value) → is_null (view x) ≡ false → y ≡ better greatest met (view x) → whole ≡ best greatest (Some y) (others (map view (drop (i + 1) values)))
  best_on y e is =
      next_best ∙ ap (λ b. best greatest met (cond (not b) (view x ∷ others (map view (drop (i + 1) values))) (others (map view (drop (i + 1) values))))) e
      ∙ ap (λ z. best greatest (Some z) (others (map view (drop (i + 1) values)))) (sym is)

  pub best_stays : is_null (view x) ≡ true → whole ≡ best greatest met (others (map view (drop (i + 1) values)))
  best_stays e = next_best ∙ ap (λ b. best greatest met (cond (not b) (view x ∷ others (map view (drop (i + 1) values))) (others (map view (drop (i + 1) values))))) e

pub best_ends : (greatest : Bool) (values : List Bson) (i : ℕ) (met whole : Option Value) → length values ≤ i → whole ≡ best greatest met (others (map view (drop i values))) → met ≡ whole
best_ends greatest values i met whole end h = sym (h ∙ ap (λ bs. best greatest met (others (map view bs))) (drop_end values i end))

-- ---- the first and the last one

lent_is : (o : Option (Bor Bson)) → lent o ≡ option_map view (option_copied o)
lent_is None = refl
lent_is (Some b) = refl

first_is : (bs : List Bson) → unwrap_or (option_map view (slice_get bs 0)) (scalar null) ≡ first_of (map view bs)
first_is [] = refl
first_is (b ∷ bs) = refl

last_at : (b : Bson) (bs : List Bson) → unwrap_or (option_map view (slice_get (b ∷ bs) (length bs))) (scalar null) ≡ last_of (map view (b ∷ bs))
last_at b [] = refl
last_at b (c ∷ bs) = last_at c bs

last_is : (bs : List Bson) → unwrap_or (option_map view (slice_get bs (length bs - 1))) (scalar null) ≡ last_of (map view bs)
last_is [] = refl
last_is (b ∷ bs) = let one : suc (length bs) - 1 ≡ length bs = omega arith in ap (λ n. unwrap_or (option_map view (slice_get (b ∷ bs) n)) (scalar null)) one ∙ last_at b bs

pub first_lent : (bs : List Bson) (o : Option (Bor Bson)) → option_copied o ≡ slice_get bs 0 → unwrap_or (lent o) (scalar null) ≡ first_of (map view bs)
first_lent bs o e = ap (λ v. unwrap_or v (scalar null)) (lent_is o ∙ ap (option_map view) e) ∙ first_is bs

pub last_lent : (bs : List Bson) (o : Option (Bor Bson)) → option_copied o ≡ slice_get bs (length bs - 1) → unwrap_or (lent o) (scalar null) ≡ last_of (map view bs)
last_lent bs o e = ap (λ v. unwrap_or v (scalar null)) (lent_is o ∙ ap (option_map view) e) ∙ last_is bs

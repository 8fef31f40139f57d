-- Arrays as sets.
use Rattle.std.proofs.Common.{◌≡◌, ℕ, ◌+◌, ◌<◌, ◌≤◌, List, [], ◌∷◌, ◌++◌, drop, length, get_or, map, append_assoc, append-nil, Bool, true, false, not, ◌||◌, cond, refl, sym, ap, ◌∙◌}
use Rattle.std.proofs.lemmas.List.{map-append}
use Rattle.std.specs.List.{filter}
use Rattle.std.specs.Ordering.{is_eq}
use Rattle.std.specs.declared.cmp.Ordering.{Ordering}
use Rattle.bson_base.specs.Value.{Value}
use Rattle.bson_model.specs.View.{view, items_of}
use Rattle.bson_model.specs.declared.bson.Bson.{Bson}
use Rattle.bson_order.specs.Order.{order}
use Rattle.store_update.proofs.UpdateLemmas.{drop_at, drop_end, drop_none, values_of}
use Rattle.store_update.specs.Arrays.{has, with_each, with_one, without_each}
use Rattle.store_update.specs.Update.{with_included, without_excluded}

-- ---- whether one is equal

module _ (items : List Bson) (i : ℕ) (x : Bson) (w : Value) (total : Bool) (low : i < length items) (is : x ≡ get_or items i x) (h : total ≡ has (map view (drop i items)) w) (r : Ordering) (told : r ≡ order (view x) w) (b : Bool) (test : b ≡ is_eq r) where
  has_turn : total ≡ (b || has (map view (drop (i + 1) items)) w)
  has_turn = h ∙ ap (λ xs. has (map view xs) w) (drop_at items i x low is) ∙ ap (λ o. is_eq o || has (map view (drop (i + 1) items)) w) (sym told) ∙ ap (λ c. c || has (map view (drop (i + 1) items)) w) (sym test)

  pub has_here : b ≡ true → true ≡ total
  has_here e = sym (has_turn ∙ ap (λ c. c || has (map view (drop (i + 1) items)) w) e)

  pub has_on : b ≡ false → total ≡ has (map view (drop (i + 1) items)) w
  has_on e = has_turn ∙ ap (λ c. c || has (map view (drop (i + 1) items)) w) e

pub has_none : (items : List Bson) (i : ℕ) (w : Value) (total : Bool) → length items ≤ i → total ≡ has (map view (drop i items)) w → false ≡ total
has_none items i w total end h = sym (h ∙ ap (λ xs. has (map view xs) w) (drop_end items i end))

-- ---- items that come in

pub one_there : (w : Value) (vs : List Value) (b : Bool) → b ≡ has vs w → b ≡ true → vs ≡ with_one w vs
one_there w vs b is e = ap (λ c. cond c vs (vs ++ w ∷ [])) (sym (sym is ∙ e))

pub one_more : (w : Value) (old : List Bson) (new : List Bson) (x : Bson) (b : Bool) → b ≡ has (map view old) w → b ≡ false → view x ≡ w → new ≡ old ++ x ∷ [] → map view new ≡ with_one w (map view old)
one_more w old new x b is e same more =
    ap (map view) more ∙ map-append view old (x ∷ []) ∙ ap (λ v. map view old ++ v ∷ []) same ∙ ap (λ c. cond c (map view old) (map view old ++ w ∷ [])) (sym (sym is ∙ e))

module _ (new : List Bson) (i : ℕ) (x : Bson) (total : List Value) (old all : List Bson) (low : i < length new) (is : x ≡ get_or new i x) (h : total ≡ with_each (map view (drop i new)) (map view old)) where
  pub each_on : map view all ≡ with_one (view x) (map view old) → total ≡ with_each (map view (drop (i + 1) new)) (map view all)
  each_on e = h ∙ ap (λ xs. with_each (map view xs) (map view old)) (drop_at new i x low is) ∙ ap (with_each (map view (drop (i + 1) new))) (sym e)

pub each_end : (new : List Bson) (i : ℕ) (total : List Value) (all : List Bson) → length new ≤ i → total ≡ with_each (map view (drop i new)) (map view all) → map view all ≡ total
each_end new i total all end h = sym (h ∙ ap (λ xs. with_each (map view xs) (map view all)) (drop_end new i end))

pub included_is : (new old copy all : List Bson) → map view copy ≡ map view old → map view all ≡ with_each (map view new) (map view copy) → items_of (map view all) ≡ with_included (map view new) (items_of (map view old))
included_is new old copy all same is = ap items_of (is ∙ ap (with_each (map view new)) same) ∙ sym (ap (λ vs. items_of (with_each (map view new) vs)) (values_of (map view old)))

-- ---- items that go out

kept_by : (b : Bool) (v : Value) (vs : List Value) → cond b (v ∷ vs) vs ≡ cond b (v ∷ []) [] ++ vs
kept_by true v vs = refl
kept_by false v vs = refl

pub one_out : (ws : List Value) (v : Value) (old : List Value) (b : Bool) → b ≡ has ws v → b ≡ true → old ≡ old ++ without_each ws (v ∷ [])
one_out ws v old b is e = sym (ap (λ c. old ++ cond (not c) (v ∷ []) []) (sym is ∙ e) ∙ append-nil old)

pub one_kept : (ws : List Value) (v : Value) (old new : List Bson) (x : Bson) (b : Bool) → b ≡ has ws v → b ≡ false → view x ≡ v → new ≡ old ++ x ∷ [] → map view new ≡ map view old ++ without_each ws (v ∷ [])
one_kept ws v old new x b is e same more =
    ap (map view) more ∙ map-append view old (x ∷ []) ∙ ap (λ u. map view old ++ u ∷ []) same ∙ sym (ap (λ c. map view old ++ cond (not c) (v ∷ []) []) (sym is ∙ e))

module _ (ws : List Value) (items : List Bson) (i : ℕ) (x : Bson) (total : List Value) (old left : List Bson) (low : i < length items) (is : x ≡ get_or items i x) (h : total ≡ map view old ++ without_each ws (map view (drop i items))) where
  pub out_on : map view left ≡ map view old ++ without_each ws (view x ∷ []) → total ≡ map view left ++ without_each ws (map view (drop (i + 1) items))
  out_on e =
      let rest = without_each ws (map view (drop (i + 1) items)) in
      h ∙ ap (λ xs. map view old ++ without_each ws (map view xs)) (drop_at items i x low is)
      ∙ ap (λ vs. map view old ++ vs) (kept_by (not (has ws (view x))) (view x) rest)
      ∙ sym (append_assoc (map view old) (without_each ws (view x ∷ [])) rest) ∙ ap (λ vs. vs ++ rest) (sym e)

pub out_end : (ws : List Value) (items : List Bson) (i : ℕ) (total : List Value) (left : List Bson) → length items ≤ i → total ≡ map view left ++ without_each ws (map view (drop i items)) → map view left ≡ total
out_end ws items i total left end h = sym (h ∙ ap (λ xs. map view left ++ without_each ws (map view xs)) (drop_end items i end) ∙ append-nil (map view left))

pub excluded_is : (ws old left : List Bson) → map view left ≡ without_each (map view ws) (map view old) → items_of (map view left) ≡ without_excluded (map view ws) (items_of (map view old))
excluded_is ws old left is = ap items_of is ∙ sym (ap (λ vs. items_of (without_each (map view ws) vs)) (values_of (map view old)))

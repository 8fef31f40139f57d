-- Keys that are added in order: how far the search for the first one that is there already has come. A loop over the
-- keys that looks each up among those that are there, and in the set of those that came before it, has `ComeTo` as its
-- invariant.
use Rattle.std.proofs.Common.{◌≡◌, ℕ, zero, suc, ◌+◌, ◌<◌, ◌≤◌, List, [], ◌∷◌, ◌++◌, length, take, drop, get_or, Bool, true, false, not, IsTrue, ◌||◌, cond, Some, None, refl, sym, ap, ap₂, ◌∙◌, subst, add-one, append_assoc, arith}
use Rattle.std.specs.List.{list_any}
use Rattle.std.specs.Str.{bytes_eq}
use Rattle.std.proofs.Math.Seq.{drop-cons, take-suc}
use Rattle.std.proofs.Math.ListN.{drop_of_length-le}
use Rattle.std.proofs.lemmas.List.{append-nil, length-map}
use Rattle.std.proofs.lemmas.List.Folds.{list_any-append}
use Rattle.store_documents.specs.declared.write.KeptRow.{KeptRow}
use Rattle.store_documents.specs.declared.keys.Keys.{Keys}
use Rattle.store_documents.specs.Keys.{has_met, first_taken, keys_of_rows}

-- the keys before the place `at` were not there, and are those that were met
pub record ComeTo (there ks : List (List ℕ)) (met : Keys) (at : ℕ) : Type 0 where
  pub same : first_taken 0 there ks ≡ first_taken at (there ++ take at ks) (drop at ks)
  pub has : (j : List ℕ) → has_met met j ≡ list_any (bytes_eq j) (take at ks)

pub come_start : (there ks : List (List ℕ)) (met : Keys) → ((j : List ℕ) → has_met met j ≡ false) → ComeTo there ks met 0
come_start there ks met none = record {
  same = ap (λ t. first_taken 0 t ks) (sym (append-nil there));
  has = none;
}

-- the next key
turn : (there ks : List (List ℕ)) (at : ℕ) → at < length ks
    → first_taken at (there ++ take at ks) (drop at ks)
    ≡ cond (list_any (bytes_eq (get_or ks at [])) (there ++ take at ks)) (Some at) (first_taken (suc at) ((there ++ take at ks) ++ get_or ks at [] ∷ []) (drop (suc at) ks))
turn there ks at h = ap (first_taken at (there ++ take at ks)) (drop-cons ks at [] h)

-- it is among those that were there, or it came before
found : (there ks : List (List ℕ)) (met : Keys) (at : ℕ) (k : List ℕ) → ComeTo there ks met at → list_any (bytes_eq k) (there ++ take at ks) ≡ list_any (bytes_eq k) there || has_met met k
found there ks met at k c = list_any-append (bytes_eq k) there (take at ks) ∙ ap (λ b. list_any (bytes_eq k) there || b) (sym (c.has k))

pub come_more : (there ks : List (List ℕ)) (old new : Keys) (at : ℕ) (k : List ℕ) → ComeTo there ks old at → at < length ks → k ≡ get_or ks at []
    → list_any (bytes_eq k) there ≡ false → has_met old k ≡ false → ((j : List ℕ) → has_met new j ≡ bytes_eq j k || has_met old j) → ComeTo there ks new (at + 1)
come_more there ks old new at k c h e absent fresh added = rw add-one (record {
  same = c.same ∙ turn there ks at h ∙ rw missing (ap (λ t. first_taken (suc at) t (drop (suc at) ks)) (append_assoc there (take at ks) (get_or ks at [] ∷ []) ∙ ap (λ l. there ++ l) (sym (take-suc ks at [] h))));
  has = λ j. added j ∙ ap₂ (λ x y. bytes_eq j x || y) e (c.has j) ∙ or_flip (bytes_eq j (get_or ks at [])) (list_any (bytes_eq j) (take at ks)) ∙ sym (ap (list_any (bytes_eq j)) (take-suc ks at [] h) ∙ list_any-append (bytes_eq j) (take at ks) (get_or ks at [] ∷ []));
})
  where
    missing : list_any (bytes_eq (get_or ks at [])) (there ++ take at ks) ≡ false
    missing = subst (λ x. list_any (bytes_eq x) (there ++ take at ks) ≡ false) e (found there ks old at k c ∙ ap₂ (λ a b. a || b) absent fresh)

    or_flip : (a b : Bool) → a || b ≡ b || (a || false)
    or_flip true true = refl
    or_flip true false = refl
    or_flip false true = refl
    or_flip false false = refl

here : (there ks : List (List ℕ)) (met : Keys) (at : ℕ) (k : List ℕ) → ComeTo there ks met at → at < length ks → k ≡ get_or ks at [] → list_any (bytes_eq k) there || has_met met k ≡ true → first_taken 0 there ks ≡ Some at
here there ks met at k c h e is =
    let there_is = subst (λ x. list_any (bytes_eq x) (there ++ take at ks) ≡ true) e (found there ks met at k c ∙ is) in
    c.same ∙ turn there ks at h ∙ rw there_is refl

-- the next key is among those that were there
pub come_there : (there ks : List (List ℕ)) (met : Keys) (at : ℕ) (k : List ℕ) → ComeTo there ks met at → at < length ks → k ≡ get_or ks at [] → list_any (bytes_eq k) there ≡ true → first_taken 0 there ks ≡ Some at
come_there there ks met at k c h e is = here there ks met at k c h e (rw is refl)

-- the next key came before
pub come_again : (there ks : List (List ℕ)) (met : Keys) (at : ℕ) (k : List ℕ) → ComeTo there ks met at → at < length ks → k ≡ get_or ks at [] → has_met met k ≡ true → first_taken 0 there ks ≡ Some at
come_again there ks met at k c h e is = here there ks met at k c h e (rw is (or_true (list_any (bytes_eq k) there)))
  where
    or_true : (b : Bool) → b || true ≡ true
    or_true true = refl
    or_true false = refl

-- no key was there
pub come_end : (there ks : List (List ℕ)) (met : Keys) (at : ℕ) → ComeTo there ks met at → length ks ≤ at → first_taken 0 there ks ≡ None
come_end there ks met at c h = c.same ∙ ap (first_taken at (there ++ take at ks)) (drop_of_length-le ks h)

-- ---- the keys of rows

pub rows_below : (rows : List KeptRow) (at : ℕ) → at < length rows → at < length (keys_of_rows rows)
rows_below rows at h = omega (arith, h, length-map rows (λ (w : KeptRow). w.key.items))

pub key_at : (rows : List KeptRow) (at : ℕ) (w : KeptRow) → at < length rows → w ≡ get_or rows at w → w.key.items ≡ get_or (keys_of_rows rows) at []
key_at [] at w h is = absurd (omega (arith, h))
key_at (r ∷ rows) zero w h is = ap (λ (x : KeptRow). x.key.items) is
key_at (r ∷ rows) (suc at) w h is = key_at rows at w (omega (arith, h)) is

-- what `meet` says of a key
pub not_met : (is_new met : Bool) → is_new ≡ not met → IsTrue is_new → met ≡ false
not_met is_new false e t = refl
not_met is_new true e t = cc

pub met_before : (is_new met : Bool) → is_new ≡ not met → is_new ≡ false → met ≡ true
met_before is_new true e f = refl
met_before is_new false e f = cc

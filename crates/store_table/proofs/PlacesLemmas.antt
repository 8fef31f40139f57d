-- A map from keys and names to places, and the rows that it represents.
use Rattle.std.proofs.Common.{◌≡◌, ◌++◌, ℤ, List, [], ◌∷◌, Bool, true, false, cond, ◌&&◌, Some, None, option_map, find, bytes_eq, refl, sym, ap, ap₂, ◌∙◌, is_eq}
use Rattle.std.specs.BTreeMap.{BTreeMap, get}
use Rattle.std.proofs.lemmas.Bool.{and_parts}
use Rattle.std.proofs.lemmas.Slice.Eq.{bytes_eq-Decides}
use Rattle.store_table.specs.Rows.{TableRow, is_row_named}
use Rattle.store_table.specs.Seen.{Pair, pair_cmp}
use Rattle.store_table.specs.Renewal.{HasPlaces}
use Rattle.store_table.proofs.SeenLemmas.{pair_test, and_swap}

abbrev place_of : TableRow → ℤ
place_of d = d.place

find_at_last : (p : TableRow → Bool) (docs : List TableRow) (d : TableRow) → option_map place_of (find p docs) ≡ None → p d ≡ true → find p (docs ++ d ∷ []) ≡ Some d
find_at_last p [] d none is = rw is refl
find_at_last p (e ∷ docs) d none is = by (p e) none (find_at_last p docs d)
  where
    by : (b : Bool) → option_map place_of (cond b (Some e) (find p docs)) ≡ None → (option_map place_of (find p docs) ≡ None → p d ≡ true → find p (docs ++ d ∷ []) ≡ Some d)
        → cond b (Some e) (find p (docs ++ d ∷ [])) ≡ Some d
    by true h more = cc
    by false h more = more h is

find_as_before : (p : TableRow → Bool) (docs : List TableRow) (d : TableRow) → p d ≡ false → find p (docs ++ d ∷ []) ≡ find p docs
find_as_before p [] d is = rw is refl
find_as_before p (e ∷ docs) d is = ap (cond (p e) (Some e)) (find_as_before p docs d is)

-- a row is named by the pair of its key and its collection
named_by : (x q : Pair) (d : TableRow) → d.coll ≡ x.1.items → d.idkey ≡ x.0.items → is_row_named q.1.items q.0.items d ≡ is_eq (pair_cmp x q)
named_by x q d coll idkey =
    ap₂ (λ c k. bytes_eq c q.1.items && bytes_eq k q.0.items) coll idkey ∙ and_swap (bytes_eq x.1.items q.1.items) (bytes_eq x.0.items q.0.items) ∙ sym (pair_test x q)

pub places_more : (old new : BTreeMap Pair ℤ) (docs : List TableRow) (d : TableRow) (x : Pair) → HasPlaces old docs → d.coll ≡ x.1.items → d.idkey ≡ x.0.items
    → get pair_cmp old x ≡ None → ((q : Pair) → get pair_cmp new q ≡ cond (is_eq (pair_cmp x q)) (Some d.place) (get pair_cmp old q)) → HasPlaces new (docs ++ d ∷ [])
places_more old new docs d x has coll idkey none updates q = updates q ∙ by (is_eq (pair_cmp x q)) refl
  where
    named : is_row_named q.1.items q.0.items d ≡ is_eq (pair_cmp x q)
    named = named_by x q d coll idkey

    by : (b : Bool) → is_eq (pair_cmp x q) ≡ b → cond b (Some d.place) (get pair_cmp old q) ≡ option_map place_of (find (is_row_named q.1.items q.0.items) (docs ++ d ∷ []))
    by true e = sym (ap (option_map place_of) (find_at_last (is_row_named q.1.items q.0.items) docs d (sym (has q) ∙ absent e) (named ∙ e)))
      where
        absent : is_eq (pair_cmp x q) ≡ true → get pair_cmp old q ≡ None
        absent t =
            let parts = and_parts (bytes_eq x.0.items q.0.items) (bytes_eq x.1.items q.1.items) (sym (pair_test x q) ∙ t) in
            let keys : x.0.items ≡ q.0.items = (bytes_eq-Decides x.0.items q.0.items).0 parts.0 in
            let names : x.1.items ≡ q.1.items = (bytes_eq-Decides x.1.items q.1.items).0 parts.1 in
            has q ∙ ap₂ (λ c k. option_map place_of (find (is_row_named c k) docs)) (sym names) (sym keys) ∙ sym (has x) ∙ none
    by false e = has q ∙ ap (option_map place_of) (sym (find_as_before (is_row_named q.1.items q.0.items) docs d (named ∙ e)))

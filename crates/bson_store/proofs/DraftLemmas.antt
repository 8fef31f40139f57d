-- What is found in rows after one change of them.
use Rattle.std.proofs.Common.{◌≡◌, ℕ, ℤ, List, [], ◌∷◌, ◌++◌, Bool, true, false, not, cond, Option, None, Some, option_map, find, refl, sym, ap, ◌∙◌}
use Rattle.std.specs.Ordering.{int_eq}
use Rattle.std.specs.Prelude.{bytes_eq}
use Rattle.std.proofs.lemmas.Bool.{and_parts}
use Rattle.std.proofs.lemmas.Slice.Eq.{bytes_eq-Decides}
use Rattle.store_table.specs.Moves.{parts_of_row}
use Rattle.store_table.specs.Rows.{TableRow, is_row_named, is_at, with_body, with_body_at, without_place}
use Rattle.bson_store.specs.Draft.{AreApart, parts_in}

-- a row more after one that was found, or after none: the first that is found
abbrev pub or_added : Bool → ℤ → List ℕ → Option (ℤ × List ℕ) → Option (ℤ × List ℕ)
or_added named place body (Some p) = Some p
or_added named place body None = cond named (Some (place, body)) None

abbrev pub or_rewritten : ℤ → List ℕ → Option (ℤ × List ℕ) → Option (ℤ × List ℕ)
or_rewritten place body None = None
or_rewritten place body (Some p) = cond (int_eq p.0 place) (Some (p.0, body)) (Some p)

abbrev pub unless_removed : ℤ → Option (ℤ × List ℕ) → Option (ℤ × List ℕ)
unless_removed place None = None
unless_removed place (Some p) = cond (int_eq p.0 place) None (Some p)

pub named_is : (n k : List ℕ) (d : TableRow) → is_row_named n k d ≡ true → (d.coll ≡ n) × (d.idkey ≡ k)
named_is n k d h = let p = and_parts (bytes_eq d.coll n) (bytes_eq d.idkey k) h in ((bytes_eq-Decides d.coll n).0 p.0, (bytes_eq-Decides d.idkey k).0 p.1)

module _ (n k : List ℕ) where
  -- ---- a row more

  pub found_added : (e : TableRow) (docs : List TableRow) → parts_in n k (docs ++ e ∷ []) ≡ or_added (is_row_named n k e) e.place e.body (parts_in n k docs)
  found_added e [] = by (is_row_named n k e)
    where
      by : (b : Bool) → option_map parts_of_row (cond b (Some e) None) ≡ cond b (Some (e.place, e.body)) None
      by true = refl
      by false = refl
  found_added e (d ∷ docs) = by (is_row_named n k d) (found_added e docs)
    where
      by : (b : Bool) → parts_in n k (docs ++ e ∷ []) ≡ or_added (is_row_named n k e) e.place e.body (parts_in n k docs)
          → option_map parts_of_row (cond b (Some d) (find (is_row_named n k) (docs ++ e ∷ []))) ≡ or_added (is_row_named n k e) e.place e.body (option_map parts_of_row (cond b (Some d) (find (is_row_named n k) docs)))
      by true h = refl
      by false h = h

  -- ---- another body

  same_parts : (p : ℤ) (b : List ℕ) (d : TableRow) → Some (parts_of_row (with_body p b d)) ≡ or_rewritten p b (Some (parts_of_row d))
  same_parts p b d = by (int_eq d.place p)
    where
      by : (t : Bool) → Some (parts_of_row (cond t (record { place = d.place; coll = d.coll; idkey = d.idkey; body = b }) d)) ≡ cond t (Some (d.place, b)) (Some (d.place, d.body))
      by true = refl
      by false = refl

  pub same_name : (p : ℤ) (b : List ℕ) (d : TableRow) → is_row_named n k (with_body p b d) ≡ is_row_named n k d
  same_name p b d = by (int_eq d.place p)
    where
      by : (t : Bool) → is_row_named n k (cond t (record { place = d.place; coll = d.coll; idkey = d.idkey; body = b }) d) ≡ is_row_named n k d
      by true = refl
      by false = refl

  pub found_rewritten : (p : ℤ) (b : List ℕ) (docs : List TableRow) → parts_in n k (with_body_at p b docs) ≡ or_rewritten p b (parts_in n k docs)
  found_rewritten p b [] = refl
  found_rewritten p b (d ∷ docs) =
      ap (λ t. option_map parts_of_row (cond t (Some (with_body p b d)) (find (is_row_named n k) (with_body_at p b docs)))) (same_name p b d) ∙ by (is_row_named n k d) (found_rewritten p b docs)
    where
      by : (t : Bool) → parts_in n k (with_body_at p b docs) ≡ or_rewritten p b (parts_in n k docs)
          → option_map parts_of_row (cond t (Some (with_body p b d)) (find (is_row_named n k) (with_body_at p b docs))) ≡ or_rewritten p b (option_map parts_of_row (cond t (Some d) (find (is_row_named n k) docs)))
      by true h = same_parts p b d
      by false h = h

  -- ---- a row less

  pub none_in : (p : ℤ) (docs : List TableRow) → find (is_row_named n k) docs ≡ None → find (is_row_named n k) (without_place p docs) ≡ None
  none_in p [] h = refl
  none_in p (d ∷ docs) h = by (is_row_named n k d) refl h (none_in p docs)
    where
      at : (t : Bool) → is_row_named n k d ≡ false → find (is_row_named n k) (without_place p docs) ≡ None → find (is_row_named n k) (cond (not t) (d ∷ without_place p docs) (without_place p docs)) ≡ None
      at true e h = h
      at false e h = rw e h

      by : (t : Bool) → is_row_named n k d ≡ t → cond t (Some d) (find (is_row_named n k) docs) ≡ None → (find (is_row_named n k) docs ≡ None → find (is_row_named n k) (without_place p docs) ≡ None)
          → find (is_row_named n k) (without_place p (d ∷ docs)) ≡ None
      by true e h rest = absurd (cc)
      by false e h rest = at (is_at p d) e (rest h)

  named_so : (d : TableRow) → is_row_named n k d ≡ true → find (is_row_named d.coll d.idkey) ≡ find (is_row_named n k)
  named_so d h = let p = named_is n k d h in rw (p.0, p.1) refl

  pub found_without : (p : ℤ) (docs : List TableRow) → AreApart docs → parts_in n k (without_place p docs) ≡ unless_removed p (parts_in n k docs)
  found_without p [] apart = refl
  found_without p (d ∷ docs) apart = by (is_row_named n k d) refl (found_without p docs apart.1)
    where
      -- the row is the one that is looked for
      here : (t : Bool) → is_at p d ≡ t → is_row_named n k d ≡ true → option_map parts_of_row (find (is_row_named n k) (cond (not t) (d ∷ without_place p docs) (without_place p docs))) ≡ cond t None (Some (d.place, d.body))
      here true e named = ap (option_map parts_of_row) (none_in p docs (ap (λ f. f docs) (sym (named_so d named)) ∙ apart.0))
      here false e named = rw named refl

      -- it isn't
      there : (t : Bool) → is_row_named n k d ≡ false → parts_in n k (without_place p docs) ≡ unless_removed p (parts_in n k docs)
          → option_map parts_of_row (find (is_row_named n k) (cond (not t) (d ∷ without_place p docs) (without_place p docs))) ≡ unless_removed p (parts_in n k docs)
      there true named h = h
      there false named h = rw named h

      by : (t : Bool) → is_row_named n k d ≡ t → parts_in n k (without_place p docs) ≡ unless_removed p (parts_in n k docs)
          → parts_in n k (without_place p (d ∷ docs)) ≡ unless_removed p (option_map parts_of_row (cond t (Some d) (find (is_row_named n k) docs)))
      by true e h = here (is_at p d) refl e
      by false e h = there (is_at p d) e h

-- The rows of a collection after one change of all rows.
use Rattle.std.proofs.Common.{◌≡◌, ◌+◌, ◌<◌, ◌≤◌, ℕ, ℤ, List, [], ◌∷◌, ◌++◌, Bool, true, false, not, cond, filter, get_or, length, map, set, take, drop, refl, sym, ap, ap₂, subst, ◌∙◌, arith}
use Rattle.std.proofs.Math.Seq.{map-set_same}
use Rattle.std.proofs.lemmas.List.{append-nil, drop_all, map-append, take_all, take_more, take_more_set}
use Rattle.std.proofs.lemmas.Simd.{map-map}
use Rattle.std.specs.Ordering.{int_eq}
use Rattle.store_table.specs.Change.{with_change, with_changes}
use Rattle.store_table.specs.Moves.{parts_of_found, parts_of_row, placed_of}
use Rattle.store_table.specs.Rows.{TableRow, is_at, is_in, with_body, with_body_at, without_place}
use Rattle.store_table.specs.declared.change.Change.{Change}
use Rattle.store_table.specs.declared.row.Found.{Found}
use Rattle.bson_store.specs.Draft.{ShowRows, is_elsewhere, parts_of, with_part}
use Rattle.bson_store.proofs.OverLemmas.{changes_more}

module _ (n : List ℕ) where
  -- ---- a row more

  pub placed_added : (e : TableRow) (docs : List TableRow) → placed_of n (docs ++ e ∷ []) ≡ placed_of n docs ++ cond (is_in n e) ((e.place, e.body) ∷ []) []
  placed_added e [] = by (is_in n e)
    where
      by : (b : Bool) → map parts_of_row (cond b (e ∷ []) []) ≡ cond b ((e.place, e.body) ∷ []) []
      by true = refl
      by false = refl
  placed_added e (d ∷ docs) = by (is_in n d) (placed_added e docs)
    where
      by : (b : Bool) → placed_of n (docs ++ e ∷ []) ≡ placed_of n docs ++ cond (is_in n e) ((e.place, e.body) ∷ []) []
          → map parts_of_row (cond b (d ∷ filter (is_in n) (docs ++ e ∷ [])) (filter (is_in n) (docs ++ e ∷ []))) ≡ map parts_of_row (cond b (d ∷ filter (is_in n) docs) (filter (is_in n) docs)) ++ cond (is_in n e) ((e.place, e.body) ∷ []) []
      by true h = ap (λ l. parts_of_row d ∷ l) h
      by false h = h

  -- ---- another body

  same_part : (p : ℤ) (b : List ℕ) (d : TableRow) → parts_of_row (with_body p b d) ≡ with_part p b (parts_of_row d)
  same_part p b d = by (int_eq d.place p)
    where
      by : (t : Bool) → parts_of_row (cond t (record { place = d.place; coll = d.coll; idkey = d.idkey; body = b }) d) ≡ cond t (d.place, b) (d.place, d.body)
      by true = refl
      by false = refl

  same_name : (p : ℤ) (b : List ℕ) (d : TableRow) → is_in n (with_body p b d) ≡ is_in n d
  same_name p b d = by (int_eq d.place p)
    where
      by : (t : Bool) → is_in n (cond t (record { place = d.place; coll = d.coll; idkey = d.idkey; body = b }) d) ≡ is_in n d
      by true = refl
      by false = refl

  pub placed_rewritten : (p : ℤ) (b : List ℕ) (docs : List TableRow) → placed_of n (with_body_at p b docs) ≡ map (with_part p b) (placed_of n docs)
  placed_rewritten p b [] = refl
  placed_rewritten p b (d ∷ docs) =
      ap (λ t. map parts_of_row (cond t (with_body p b d ∷ filter (is_in n) (with_body_at p b docs)) (filter (is_in n) (with_body_at p b docs)))) (same_name p b d) ∙ by (is_in n d) (placed_rewritten p b docs)
    where
      by : (t : Bool) → placed_of n (with_body_at p b docs) ≡ map (with_part p b) (placed_of n docs)
          → map parts_of_row (cond t (with_body p b d ∷ filter (is_in n) (with_body_at p b docs)) (filter (is_in n) (with_body_at p b docs))) ≡ map (with_part p b) (map parts_of_row (cond t (d ∷ filter (is_in n) docs) (filter (is_in n) docs)))
      by true h = ap (λ x. x ∷ placed_of n (with_body_at p b docs)) (same_part p b d) ∙ ap (λ l. with_part p b (parts_of_row d) ∷ l) h
      by false h = h

  -- ---- a row less

  pub placed_without : (p : ℤ) (docs : List TableRow) → placed_of n (without_place p docs) ≡ filter (is_elsewhere p) (placed_of n docs)
  placed_without p [] = refl
  placed_without p (d ∷ docs) = by (is_at p d) (is_in n d) refl refl (placed_without p docs)
    where
      at : List TableRow
      at = filter (is_in n) (without_place p docs)

      by : (s t : Bool) → is_at p d ≡ s → is_in n d ≡ t → placed_of n (without_place p docs) ≡ filter (is_elsewhere p) (placed_of n docs)
          → map parts_of_row (filter (is_in n) (cond (not (is_at p d)) (d ∷ without_place p docs) (without_place p docs))) ≡ filter (is_elsewhere p) (map parts_of_row (cond (is_in n d) (d ∷ filter (is_in n) docs) (filter (is_in n) docs)))
      by true true e f h = rw f (rw e h)
      by true false e f h = rw f (rw e h)
      by false true e f h = rw f (rw e (rw f (ap (λ l. parts_of_row d ∷ l) h)))
      by false false e f h = rw f (rw e (rw f h))

-- ---- rows that are held

abbrev pub renewed : ℤ → List ℕ → Found → ℤ × List ℕ
renewed p b f = with_part p b (parts_of_found f)

pub parts_kept : (p : ℤ) (rows : List Found) → parts_of (filter (λ (f : Found). not (int_eq f.place p)) rows) ≡ filter (is_elsewhere p) (parts_of rows)
parts_kept p [] = refl
parts_kept p (f ∷ rows) = by (int_eq f.place p) (parts_kept p rows)
  where
    kept : List Found
    kept = filter (λ (x : Found). not (int_eq x.place p)) rows

    by : (t : Bool) → parts_of kept ≡ filter (is_elsewhere p) (parts_of rows) → parts_of (cond (not t) (f ∷ kept) kept) ≡ cond (not t) (parts_of_found f ∷ filter (is_elsewhere p) (parts_of rows)) (filter (is_elsewhere p) (parts_of rows))
    by true h = h
    by false h = ap (λ l. parts_of_found f ∷ l) h

-- the first i rows have their bodies
pub record Renewing (p : ℤ) (b : List ℕ) (first now : List Found) (i : ℕ) : Type 0 where
  pub same : map (renewed p b) now ≡ map (renewed p b) first
  pub made : parts_of (take i now) ≡ map (renewed p b) (take i now)

pub renewed_all : (p : ℤ) (b : List ℕ) (first now : List Found) (i : ℕ) → length now ≤ i → Renewing p b first now i → parts_of now ≡ map (with_part p b) (parts_of first)
renewed_all p b first now i all h =
    let whole : take i now ≡ now = take_all i now all in
    subst (λ (l : List Found). parts_of l ≡ map (renewed p b) l) whole h.made ∙ h.same ∙ sym (map-map (with_part p b) parts_of_found first)

renewed_on : (p : ℤ) (b : List ℕ) (now : List Found) (f : Found) → parts_of_found f ≡ renewed p b f → parts_of now ≡ map (renewed p b) now → parts_of (now ++ f ∷ []) ≡ map (renewed p b) (now ++ f ∷ [])
renewed_on p b now f one h = map-append parts_of_found now (f ∷ []) ∙ ap₂ (λ x y. x ++ y ∷ []) h one ∙ sym (map-append (renewed p b) now (f ∷ []))

-- a body that was given is given once more
given_twice : (p : ℤ) (b : List ℕ) (r : ℤ × List ℕ) → with_part p b (with_part p b r) ≡ with_part p b r
given_twice p b r = by (int_eq r.0 p) refl
  where
    by : (t : Bool) → int_eq r.0 p ≡ t → with_part p b (cond t (r.0, b) r) ≡ cond t (r.0, b) r
    by true e = rw e refl
    by false e = rw e refl

-- one row more
pub renews : (p : ℤ) (b : List ℕ) (first now : List Found) (i : ℕ) (d f : Found) → i < length now → parts_of_found f ≡ renewed p b (get_or now i d) → Renewing p b first now i → Renewing p b first (set now i f) (i + 1)
renews p b first now i d f inside is h =
    let again : renewed p b f ≡ renewed p b (get_or now i d) = ap (with_part p b) is ∙ given_twice p b (parts_of_found (get_or now i d)) in
    record {
      same = map-set_same (renewed p b) now i f d again ∙ h.same;
      made = subst (λ (l : List Found). parts_of l ≡ map (renewed p b) l) (sym (take_more_set now i f inside)) (renewed_on p b (take i now) f (is ∙ sym again) h.made);
    }

-- what was written is all that the list has
pub all_written : (n : ℕ) (now old : List Found) → n ≡ length old → length now ≡ length old → take n (now ++ drop (length now) old) ≡ now
all_written n now old long same =
    let none : drop (length now) old ≡ [] = drop_all (length now) old (omega (arith, same)) in
    ap (λ l. take n (now ++ l)) none ∙ ap (take n) (append-nil now) ∙ take_all n now (omega (arith, long, same))

-- ---- one change, and all of them

module _ (n : List ℕ) (rows now : List Found) (docs : List TableRow) (shows : ShowRows n rows docs) where
  pub shows_rewritten : (p q : ℤ) (b c : List ℕ) → q ≡ p → c ≡ b → parts_of now ≡ map (with_part q c) (parts_of rows) → ShowRows n now (with_body_at p b docs)
  shows_rewritten p q b c same is made = made ∙ ap₂ (λ x y. map (with_part x y) (parts_of rows)) same is ∙ ap (map (with_part p b)) shows ∙ sym (placed_rewritten n p b docs)

  pub shows_without : (p q : ℤ) → q ≡ p → parts_of now ≡ filter (is_elsewhere q) (parts_of rows) → ShowRows n now (without_place p docs)
  shows_without p q same made = made ∙ ap (λ x. filter (is_elsewhere x) (parts_of rows)) same ∙ ap (filter (is_elsewhere p)) shows ∙ sym (placed_without n p docs)

pub changed_more : (changes : List Change) (i : ℕ) (c : Change) (docs : List TableRow) → i < length changes → with_changes (take (i + 1) changes) docs ≡ with_change (get_or changes i c) (with_changes (take i changes) docs)
changed_more changes i c docs inside = ap (λ cs. with_changes cs docs) (take_more changes i c inside) ∙ changes_more (take i changes) (get_or changes i c) docs

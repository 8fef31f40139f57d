-- The edits on rows of which only a permutation is known.
use Rattle.std.proofs.Common.{cond, map, ap, sym, subst, ◌≡◌, ◌∙◌, List, [], ◌∷◌, ◌++◌, filter, Bool, true, false, not, refl, Ordering, Less, Equal, Greater}
use Rattle.std.specs.List.{AllByRecursion}
use Rattle.std.specs.Ordering.{match_ordering}
use Rattle.std.specs.List.Sorted.{IsPermutation}
use Rattle.std.proofs.lemmas.List.Sorted.{IsPermutation-refl, IsPermutation-sym, IsPermutation-cons, IsPermutation-middle, IsPermutation-trans, IsPermutation-to_front, All-permutation}
use Rattle.std.proofs.lemmas.List.Elements.{All-from_recursion, recursion_from_All}
use Rattle.sqlite.specs.declared.types.Value.TheVariants.{Int}
use Rattle.store_table.specs.Rows.{TableRow, columns_of, IsRising, AreBelow, is_at, without_place}
use Rattle.store_table.proofs.PlaceLemmas.{below_is, without_is, changed_at, put_back}
use Rattle.sqlite_trees.proofs.ListLemmas.{IsPermutation-filter}
use Rattle.sqlite.specs.Order.{Row, value_cmp}
use Rattle.sqlite_trees.specs.Tree.{rowid, put_row, has_rowid, without_rowid}
use Rattle.std.proofs.Common.{ℤ}

-- a row that is put in under a free rowid is one more row
pub put_perm : (new : Row) (rows : List Row) → AllByRecursion (λ r. value_cmp (rowid r) (rowid new) ≡ Equal → ⊥) rows → IsPermutation (new ∷ rows) (put_row new rows)
put_perm new [] h = IsPermutation-refl (new ∷ [])
put_perm new (r ∷ rows) h = go (value_cmp (rowid r) (rowid new)) h.0 (put_perm new rows h.1)
  where
    go : (o : Ordering) → (o ≡ Equal → ⊥) → IsPermutation (new ∷ rows) (put_row new rows) → IsPermutation (new ∷ r ∷ rows) (match_ordering o (r ∷ put_row new rows) (new ∷ rows) (new ∷ r ∷ rows))
    go Less k p = IsPermutation-trans (new ∷ r ∷ rows) (r ∷ new ∷ rows) (r ∷ put_row new rows) (IsPermutation-sym (r ∷ new ∷ rows) (new ∷ r ∷ rows) (IsPermutation-middle (r ∷ []) new rows)) (IsPermutation-cons r (new ∷ rows) (put_row new rows) p)
    go Equal k p = absurd (k refl)
    go Greater k p = IsPermutation-refl (new ∷ r ∷ rows)

-- taking a rowid out of a permutation
pub without_perm : (id : ℤ) (xs ys : List Row) → IsPermutation xs ys → IsPermutation (without_rowid id xs) (without_rowid id ys)
without_perm id xs ys h = IsPermutation-filter (λ r. not (has_rowid id r)) xs ys h

map_last : (d : TableRow) (docs : List TableRow) → map columns_of (docs ++ d ∷ []) ≡ map columns_of docs ++ columns_of d ∷ []
map_last d [] = refl
map_last d (x ∷ docs) = ap (λ rows. columns_of x ∷ rows) (map_last d docs)

none_tied : (p : ℤ) (docs : List TableRow) → AreBelow p docs → AllByRecursion (λ r. value_cmp (rowid r) (Int p) ≡ Equal → ⊥) (map columns_of docs)
none_tied p [] h = tt
none_tied p (d ∷ docs) h = ((λ e. let low = below_is d.place p h.0 in cc), none_tied p docs h.1)

pub all_moved : (P : Row → Type 0) (xs ys : List Row) → IsPermutation xs ys → AllByRecursion P xs → AllByRecursion P ys
all_moved P xs ys m h = recursion_from_All P ys (All-permutation P xs ys m (All-from_recursion P xs h))

-- one more row, above all
pub add_perm : (d : TableRow) (docs : List TableRow) (rows : List Row) → AreBelow d.place docs → IsPermutation (map columns_of docs) rows → IsPermutation (map columns_of (docs ++ d ∷ [])) (put_row (columns_of d) rows)
add_perm d docs rows below h =
    let fresh = all_moved (λ r. value_cmp (rowid r) (Int d.place) ≡ Equal → ⊥) (map columns_of docs) rows h (none_tied d.place docs below) in
    subst (λ xs. IsPermutation xs (put_row (columns_of d) rows)) (sym (map_last d docs))
    (IsPermutation-trans (map columns_of docs ++ columns_of d ∷ []) (columns_of d ∷ map columns_of docs) (put_row (columns_of d) rows) (IsPermutation-to_front (map columns_of docs) (columns_of d))
    (IsPermutation-trans (columns_of d ∷ map columns_of docs) (columns_of d ∷ rows) (put_row (columns_of d) rows) (IsPermutation-cons (columns_of d) (map columns_of docs) rows h) (put_perm (columns_of d) rows fresh)))

-- a row that is taken out
pub gone_perm : (p : ℤ) (docs : List TableRow) (rows : List Row) → IsPermutation (map columns_of docs) rows → IsPermutation (map columns_of (without_place p docs)) (without_rowid p rows)
gone_perm p docs rows h = subst (λ xs. IsPermutation xs (without_rowid p rows)) (without_is p docs) (without_perm p (map columns_of docs) rows h)

untied : (p : ℤ) (rows : List Row) → AllByRecursion (λ r. value_cmp (rowid r) (Int p) ≡ Equal → ⊥) (without_rowid p rows)
untied p [] = tt
untied p (r ∷ rows) = go (has_rowid p r) refl (untied p rows)
  where
    go : (b : Bool) → has_rowid p r ≡ b → AllByRecursion (λ r. value_cmp (rowid r) (Int p) ≡ Equal → ⊥) (without_rowid p rows)
        → AllByRecursion (λ r. value_cmp (rowid r) (Int p) ≡ Equal → ⊥) (cond (not b) (r ∷ without_rowid p rows) (without_rowid p rows))
    go true e h = h
    go false e h = ((λ tie. let x = rw tie at e in cc), h)

-- a row that is put back as another one, at its place
pub back_perm : (p : ℤ) (f : TableRow → TableRow) → ((d : TableRow) → (f d).place ≡ d.place) → (d : TableRow) (docs : List TableRow) (rows : List Row) → IsRising docs → filter (is_at p) docs ≡ d ∷ [] → d.place ≡ p → IsPermutation (map columns_of docs) rows
    → IsPermutation (map columns_of (changed_at p f docs)) (put_row (columns_of (f d)) (without_rowid p rows))
back_perm p f stays d docs rows up one at h =
    let new = columns_of (f d) in
    let left = map columns_of (without_place p docs) in
    let free = λ (rs : List Row). subst (λ q. AllByRecursion (λ (r : Row). value_cmp (rowid r) (Int q) ≡ Equal → ⊥) (without_rowid p rs)) (sym at ∙ sym (stays d)) (untied p rs) in
    let sorted = subst (λ xs. IsPermutation (new ∷ left) xs) (put_back p f stays d docs up one at) (put_perm new left (subst (AllByRecursion (λ (r : Row). value_cmp (rowid r) (Int (f d).place) ≡ Equal → ⊥)) (without_is p docs) (free (map columns_of docs)))) in
    IsPermutation-trans (map columns_of (changed_at p f docs)) (new ∷ left) (put_row new (without_rowid p rows)) (IsPermutation-sym (new ∷ left) (map columns_of (changed_at p f docs)) sorted)
    (IsPermutation-trans (new ∷ left) (new ∷ without_rowid p rows) (put_row new (without_rowid p rows)) (IsPermutation-cons new left (without_rowid p rows) (gone_perm p docs rows h)) (put_perm new (without_rowid p rows) (free rows)))

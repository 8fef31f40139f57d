-- The rows of the store as a list of records.
use Rattle.std.proofs.Common.{◌≡◌, inl, inr, ◌<ℤ◌, ◌≤ℤ◌, ℕ, ℤ, true, List, [], ◌∷◌, map, int_lt, refl, sym, ap, ap₂, subst, ◌∙◌, arith}
use Rattle.std.specs.List.{AllByRecursion}
use Rattle.std.specs.List.Sorted.{IsPermutation}
use Rattle.std.proofs.lemmas.Int.{ints}
use Rattle.std.proofs.lemmas.Bool.Decides.{nat_tests}
use Rattle.std.proofs.lemmas.List.Sorted.{IsPermutation-sym, All-permutation, sum_by-IsPermutation}
use Rattle.std.proofs.lemmas.List.Elements.{All-from_recursion, recursion_from_All}
use Rattle.sqlite.specs.declared.types.Value.{Value}
use Rattle.sqlite.specs.declared.types.Value.TheVariants.{Int}
use Rattle.sqlite_value.specs.Order.{Row, column}
use Rattle.sqlite_btree.specs.Cut.{IsIn, Each, Ascends}
use Rattle.sqlite_rules.specs.Edit.{id_in}
use Rattle.sqlite_sql.specs.Catalog as catalog
use Rattle.sqlite_store.specs.Db.{table_row}
use Rattle.store_table.specs.Rows.{TableRow, columns_of, IsRising}
use Rattle.store_table.proofs.SortLemmas.{same_order, Strict, Rises}
use Rattle.store_table.specs.Documents.{placed, read_row, entry_of}
use Rattle.store_table.specs.Bridge.{as_doc}
use Rattle.std.specs.Prelude.{drop}

abbrev pub place_of : Row → ℤ
place_of r = id_in (column r 0)

-- ---- places rise

above : (k : ℤ) (ds : List TableRow) → AllByRecursion (λ b. k <ℤ b.place) ds → AllByRecursion (λ r. k <ℤ place_of r) (map columns_of ds)
above k [] h = tt
above k (d ∷ ds) h = (h.0, above k ds h.1)

strict : (ds : List TableRow) → IsRising ds → Strict place_of (map columns_of ds)
strict [] up = tt
strict (d ∷ ds) up = (above d.place ds up.0, strict ds up.1)

later : (k : ℤ × List ℕ) (rows : List (ℤ × List ℕ)) → Each (λ x. int_lt k.0 x.0 ≡ true) rows → AllByRecursion (λ r. k.0 ≤ℤ place_of r) (map table_row rows)
later k [] h = tt
later k (x ∷ rows) h = (one k.0 x.0 h.0, later k rows h.1)
  where
    one : (a b : ℤ) → int_lt a b ≡ true → a ≤ℤ b
    one a b lt = grind (arith, ints, nat_tests)

rises : (rows : List (ℤ × List ℕ)) → Ascends (λ a b. int_lt a.0 b.0) rows → Rises place_of (map table_row rows)
rises [] h = tt
rises (x ∷ rows) h = (later x rows h.0, rises rows h.1)

-- the rows of a tree are those of the store, in order
pub in_order : (docs : List TableRow) (rows : List (ℤ × List ℕ)) → IsRising docs → Ascends (λ a b. int_lt a.0 b.0) rows → IsPermutation (map columns_of docs) (map table_row rows)
    → map columns_of docs ≡ map table_row rows
in_order docs rows up ascends perm =
    let xs = map columns_of docs in
    let ys = map table_row rows in
    same_order place_of xs ys (λ P all. recursion_from_All P ys (All-permutation P xs ys perm (All-from_recursion P xs all))) (λ f. sum_by-IsPermutation f xs ys perm) (strict docs up) (rises rows ascends)

-- ---- row by row

int_is : {a b : ℤ} → ◌≡◌ {A = Value} (Int a) (Int b) → a ≡ b
int_is e = cc

first_is : {x y : Row} {xs ys : List Row} → ◌≡◌ {A = List Row} (x ∷ xs) (y ∷ ys) → x ≡ y
first_is e = cc

rest_is : {x y : Row} {xs ys : List Row} → ◌≡◌ {A = List Row} (x ∷ xs) (y ∷ ys) → xs ≡ ys
rest_is e = cc

one_row : (d : TableRow) (row : ℤ × List ℕ) → columns_of d ≡ table_row row → read_row row ≡ placed (as_doc d)
one_row d row e = ap₂ (λ (p : ℤ) (r : Row). (p, r)) (int_is (ap (λ r. column r 0) (sym e))) (ap (drop 1) (sym e))

pub same_rows : (docs : List TableRow) (rows : List (ℤ × List ℕ)) → map columns_of docs ≡ map table_row rows → map read_row rows ≡ map placed (map as_doc docs)
same_rows [] [] e = refl
same_rows [] (row ∷ rows) e = absurd (cc)
same_rows (d ∷ docs) [] e = absurd (cc)
same_rows (d ∷ docs) (row ∷ rows) e = ap₂ (λ z zs. z ∷ zs) (one_row d row (first_is e)) (same_rows docs rows (rest_is e))

-- ---- entries

pub entries_are : (docs : List TableRow) → map (catalog.entry_of (2 ∷ 3 ∷ [])) (map columns_of docs) ≡ map entry_of (map as_doc docs)
entries_are [] = refl
entries_are (d ∷ docs) = ap (λ es. entry_of (as_doc d) ∷ es) (entries_are docs)

each_within : (all rows : List Row) → ((r : Row) → IsIn r rows → IsIn r all) → AllByRecursion (λ r. IsIn r all) rows
each_within all [] h = tt
each_within all (r ∷ rows) h = (h r (inl refl), each_within all rows (λ x there. h x (inr there)))

of_each : (P : Row → Type 0) (rows : List Row) (r : Row) → AllByRecursion P rows → IsIn r rows → P r
of_each P [] r all h = absurd h
of_each P (x ∷ rows) r all h = elim h [ inl same ↦ subst P (sym same) all.0 | inr there ↦ of_each P rows r all.1 there ]

-- what is in a list is in each order of it
pub moved_in : (xs ys : List Row) (r : Row) → IsPermutation xs ys → IsIn r xs → IsIn r ys
moved_in xs ys r perm h =
    let P = λ (x : Row). IsIn x ys in
    of_each P xs r (recursion_from_All P xs (All-permutation P ys xs (IsPermutation-sym xs ys perm) (All-from_recursion P ys (each_within ys ys (λ x there. there))))) h

-- ---- one row a place

far : (P : TableRow → Type 0) (ds : List TableRow) (d : TableRow) → AllByRecursion P ds → IsIn d ds → P d
far P [] d all h = absurd h
far P (x ∷ ds) d all h = elim h [ inl same ↦ subst P (sym same) all.0 | inr there ↦ far P ds d all.1 there ]

never : (a b : ℤ) → a <ℤ b → a ≡ b → ⊥
never a b lt same = grind (arith, ints)

pub one_place : (docs : List TableRow) (d e : TableRow) → IsRising docs → IsIn d docs → IsIn e docs → d.place ≡ e.place → e ≡ d
one_place [] d e up h k same = absurd h
one_place (x ∷ docs) d e up (inl h) (inl k) same = k ∙ sym h
one_place (x ∷ docs) d e up (inl h) (inr k) same = absurd (never x.place e.place (far (λ b. x.place <ℤ b.place) docs e up.0 k) (ap (λ (z : TableRow). z.place) (sym h) ∙ same))
one_place (x ∷ docs) d e up (inr h) (inl k) same = absurd (never x.place d.place (far (λ b. x.place <ℤ b.place) docs d up.0 h) (ap (λ (z : TableRow). z.place) (sym k) ∙ sym same))
one_place (x ∷ docs) d e up (inr h) (inr k) same = one_place docs d e up.1 h k same

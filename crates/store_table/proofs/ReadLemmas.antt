-- What the queries return, and that they change nothing.
use Rattle.std.proofs.Common.{codes, ap₂, Equal, suc, add-one, bytes_eq, ◌≡◌, ◌<ℤ◌, ◌≤ℤ◌, ℕ, ℤ, List, [], ◌∷◌, map, filter, Bool, true, false, cond, ◌&&◌, Some, refl, sym, ap, ◌∙◌, arith, is_eq, is_lt, option_map, find, slice_get}
use Rattle.std.specs.List.{AllByRecursion, list_all, sum_by}
use Rattle.std.specs.List.Sorted.{IsSorted}
use Rattle.std.specs.Ordering.{int_cmp, ordering_then}
use Rattle.std.proofs.lemmas.Int.{ints}
use Rattle.std.proofs.lemmas.Bool.Decides.{nat_tests}
use Rattle.std.proofs.lemmas.List.Sorted.{All-permutation, sum_by-IsPermutation}
use Rattle.std.proofs.lemmas.List.Elements.{All-from_recursion, recursion_from_All}
use Rattle.sqlite.specs.declared.types.Value.{Value}
use Rattle.sqlite.specs.declared.types.Value.TheVariants.{Int, Text, Blob}
use Rattle.sqlite.specs.Order.{Row, value_cmp, column}
use Rattle.sqlite_value.proofs.OrderLemmas.{then-Equal, value_cmp-Int, value_cmp-Text, value_cmp-Blob}
use Rattle.sqlite_rules.specs.Edit.{id_in}
use Rattle.sqlite.specs.Term.{Term, col}
use Rattle.sqlite_sql.specs.Term.{holds}
use Rattle.sqlite.specs.Query.{Output, output, output_cmp}
use Rattle.sqlite.specs.Command.TheVariants.{Select}
use Rattle.sqlite.specs.Effect.{Answers}
use Rattle.sqlite_value.specs.declared.keys.Key.{Key}
use Rattle.sqlite.specs.State.{State, Shown}
use Rattle.sqlite.proofs.Callers.{reads_as}
use Rattle.store_table.specs.Rows.{TableRow, columns_of, HoldsRows, IsRising, is_at, is_row_named}
use Rattle.store_table.proofs.StatementLemmas.{seen}
use Rattle.store_table.proofs.AnswerLemmas.{and_true, Outputs, outputs_of, equal_is, map_map}
use Rattle.store_table.proofs.SortLemmas.{same_order, Strict, Rises}
use Rattle.store_table.proofs.TextLemmas.{plain_query, query_at, program, equals, by_place, find_text, places_text, at_text}
use Rattle.store_table.proofs.MeansLemmas.{Means, find_is, places_is, at_is}
use Rattle.std.proofs.lemmas.Map.Text.{is_eq-slice_cmp}

pub text_test : (a b : List ℕ) → is_eq (value_cmp (Text a) (Text b)) ≡ bytes_eq a b
text_test a b = ap is_eq (value_cmp-Text a b) ∙ is_eq-slice_cmp a b

pub blob_test : (a b : List ℕ) → is_eq (value_cmp (Blob a) (Blob b)) ≡ bytes_eq a b
blob_test a b = ap is_eq (value_cmp-Blob a b) ∙ is_eq-slice_cmp a b

-- ---- the tests of the queries, on documents

pub named_test : (coll idkey : List ℕ) (d : TableRow) → list_all (holds ((Text coll ∷ Blob idkey ∷ []) ∷ columns_of d ∷ [])) (equals 2 0 ∷ equals 3 1 ∷ []) ≡ is_row_named coll idkey d
named_test coll idkey d =
    rw (equal_is (Text d.coll) (Text coll) (bytes_eq d.coll coll) refl refl (text_test d.coll coll), equal_is (Blob d.idkey) (Blob idkey) (bytes_eq d.idkey idkey) refl refl (blob_test d.idkey idkey))
    (ap (λ b. bytes_eq d.coll coll && b) (and_true (bytes_eq d.idkey idkey)))

-- ---- rows in order

-- what an output is sorted by
abbrev pub key_of : Output → ℤ
key_of o = id_in (column o.0 0)

abbrev IsPlaced : Output → Type 0
IsPlaced o = column o.0 0 ≡ Int (key_of o)

pub not_below : (a b : ℤ) (u v : Value) → u ≡ Int a → v ≡ Int b → is_lt (ordering_then (value_cmp u v) Equal) ≡ false → b ≤ℤ a
not_below a b u v p q h = let e : is_lt (int_cmp a b) ≡ false = ap is_lt (sym (then-Equal (value_cmp u v) ∙ ap₂ value_cmp p q ∙ value_cmp-Int a b)) ∙ h in grind (arith, ints, nat_tests)

module _ (terms project : List Term) (params : Row) (t : TableRow → Bool) where
  abbrev out : TableRow → Output
  out d = output (plain_query terms project by_place) (params ∷ columns_of d ∷ [])

  strict : (docs : List TableRow) → IsRising docs → Strict key_of (map out (filter t docs))
  strict [] up = tt
  strict (d ∷ docs) up = go (t d) (strict docs up.1) (above docs up.0)
    where
      go : (b : Bool) → Strict key_of (map out (filter t docs)) → AllByRecursion (λ o. d.place <ℤ key_of o) (map out (filter t docs)) → Strict key_of (map out (cond b (d ∷ filter t docs) (filter t docs)))
      go true h k = (k, h)
      go false h k = h

      above : (ds : List TableRow) → AllByRecursion (λ b. d.place <ℤ b.place) ds → AllByRecursion (λ o. d.place <ℤ key_of o) (map out (filter t ds))
      above [] k = tt
      above (e ∷ ds) k = at (t e) (above ds k.1)
        where
          at : (b : Bool) → AllByRecursion (λ o. d.place <ℤ key_of o) (map out (filter t ds)) → AllByRecursion (λ o. d.place <ℤ key_of o) (map out (cond b (e ∷ filter t ds) (filter t ds)))
          at true h = (k.0, h)
          at false h = h

  step_up : (x y : Output) → IsPlaced x → IsPlaced y → is_lt (output_cmp (plain_query terms project by_place) y x) ≡ false → key_of x ≤ℤ key_of y
  step_up x y px py h = not_below (key_of y) (key_of x) (column y.0 0) (column x.0 0) py px h

  rises : (os : List Output) → AllByRecursion IsPlaced os → IsSorted (output_cmp (plain_query terms project by_place)) os → Rises key_of os
  rises [] p s = tt
  rises (x ∷ []) p s = (tt, tt)
  rises (x ∷ (y ∷ os)) p s =
      let le = step_up x y p.0 p.1.0 (s 0 x (omega arith) (omega arith)) in
      let more = rises (y ∷ os) p.1 (λ k d low lt. rw add-one (rw add-one at (s (suc k) d (omega arith) (omega (arith, lt))))) in
      ((le, le_all (key_of x) (key_of y) os le more.0), more)
    where
      le_all : (a b : ℤ) (zs : List Output) → a ≤ℤ b → AllByRecursion (λ z. b ≤ℤ key_of z) zs → AllByRecursion (λ z. a ≤ℤ key_of z) zs
      le_all a b [] h k = tt
      le_all a b (z ∷ zs) h k = (omega (arith, ints, h, k.0), le_all a b zs h k.1)

  placed : (ds : List TableRow) → AllByRecursion IsPlaced (map out ds)
  placed [] = tt
  placed (d ∷ ds) = (refl, placed ds)

  -- the rows in order of place are those of the documents that pass, in their order
  pub in_order : (docs : List TableRow) (rows : List Row) → IsRising docs → Outputs terms project by_place params t docs rows → rows ≡ map (λ d. (out d).1) (filter t docs)
  in_order docs rows up o =
      let xs = map out (filter t docs) in
      let all : (P : Output → Type 0) → AllByRecursion P xs → AllByRecursion P o.all = λ P h. recursion_from_All P o.all (All-permutation P xs o.all o.same (All-from_recursion P xs h)) in
      let sums : (f : Output → ℕ) → sum_by f o.all ≡ sum_by f xs = λ f. sum_by-IsPermutation f xs o.all o.same in
      let same = same_order key_of xs o.all all sums (strict docs up) (rises o.all (all IsPlaced (placed (filter t docs))) o.sorted) in
      o.shown ∙ ap (map (λ (x : Output). x.1)) (sym same) ∙ map_map (λ (x : Output). x.1) out (filter t docs)

-- ---- a row by its collection and key

pub answers_of : (sql : List ℕ) (params : Row) (old new : State) (docs : List TableRow) (names : List (List ℕ)) (terms project : List Term) (order : List (Term × Key)) (rows : List Row) → (h : HoldsRows old docs)
    → Means old.now.schema sql (Select (program (query_at (seen h.table).tree terms project order)) names) → Shown sql params old new rows → Answers old.now (program (query_at (seen h.table).tree terms project order)) params rows
answers_of sql params old new docs names terms project order rows h m s =
    reads_as sql params old new old.now.schema refl (Select (program (query_at (seen h.table).tree terms project order)) names) m.is m.plain m.unlisted rows s

abbrev named_terms : List Term
named_terms = equals 2 0 ∷ equals 3 1 ∷ []

module _ (coll idkey : List ℕ) (old new : State) (docs : List TableRow) (rows : List Row) (h : HoldsRows old docs) where
  rows_of : (text : List ℕ) (names : List (List ℕ)) (project : List Term)
      → Means old.now.schema text (Select (program (query_at (seen h.table).tree named_terms project by_place)) names) → Shown text (Text coll ∷ Blob idkey ∷ []) old new rows → Outputs named_terms project by_place (Text coll ∷ Blob idkey ∷ []) (is_row_named coll idkey) docs rows
  rows_of text names project m s =
      let params = Text coll ∷ Blob idkey ∷ [] in
      outputs_of named_terms project by_place params (is_row_named coll idkey) docs old.now rows (seen h.table) (named_test coll idkey) (answers_of text params old new docs names named_terms project by_place rows h m s)

  pub named_rows : Shown find_text (Text coll ∷ Blob idkey ∷ []) old new rows → rows ≡ map (λ d. Int d.place ∷ Blob d.body ∷ []) (filter (is_row_named coll idkey) docs)
  named_rows s =
      let project = col 1 0 ∷ col 1 4 ∷ [] in
      in_order named_terms project (Text coll ∷ Blob idkey ∷ []) (is_row_named coll idkey) docs rows (seen h.table).rising (rows_of find_text _ project (find_is old.now.schema (seen h.table).place (seen h.table).tree (seen h.table).stands) s)

  pub named_places : Shown places_text (Text coll ∷ Blob idkey ∷ []) old new rows → rows ≡ map (λ d. Int d.place ∷ []) (filter (is_row_named coll idkey) docs)
  named_places s =
      let project = col 1 0 ∷ [] in
      in_order named_terms project (Text coll ∷ Blob idkey ∷ []) (is_row_named coll idkey) docs rows (seen h.table).rising (rows_of places_text _ project (places_is old.now.schema (seen h.table).place (seen h.table).tree (seen h.table).stands) s)

-- ---- a row by its place

at_test : (p : ℤ) (d : TableRow) → list_all (holds ((Int p ∷ []) ∷ columns_of d ∷ [])) (equals 0 0 ∷ []) ≡ is_at p d
at_test p d = and_true _ ∙ equal_is (Int d.place) (Int p) (is_at p d) refl refl (ap is_eq (value_cmp-Int d.place p))

abbrev pub at_row : TableRow → Row
at_row d = Text d.coll ∷ Blob d.body ∷ []

pub rows_at : (p : ℤ) (old new : State) (docs : List TableRow) (rows : List Row) → HoldsRows old docs → Shown at_text (Int p ∷ []) old new rows → rows ≡ map at_row (filter (is_at p) docs)
rows_at p old new docs rows h s =
    let project = col 1 2 ∷ col 1 4 ∷ [] in
    let params = Int p ∷ [] in
    let m = at_is old.now.schema (seen h.table).place (seen h.table).tree (seen h.table).stands in
    in_order (equals 0 0 ∷ []) project params (is_at p) docs rows (seen h.table).rising
    (outputs_of (equals 0 0 ∷ []) project by_place params (is_at p) docs old.now rows (seen h.table) (at_test p) (answers_of at_text params old new docs (codes "coll" ∷ codes "body" ∷ []) (equals 0 0 ∷ []) project by_place rows h m s))

abbrev pub found_row : TableRow → Row
found_row d = Int d.place ∷ Blob d.body ∷ []

abbrev pub found_place : TableRow → Row
found_place d = Int d.place ∷ []

-- the first of them is what is found
pub first_found : (f : TableRow → Row) (p : TableRow → Bool) (docs : List TableRow) → slice_get (map f (filter p docs)) 0 ≡ option_map f (find p docs)
first_found f p [] = refl
first_found f p (d ∷ docs) = go (p d) (first_found f p docs)
  where
    go : (b : Bool) → slice_get (map f (filter p docs)) 0 ≡ option_map f (find p docs) → slice_get (map f (cond b (d ∷ filter p docs) (filter p docs))) 0 ≡ option_map f (cond b (Some d) (find p docs))
    go true h = refl
    go false h = h

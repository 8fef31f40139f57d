-- The greatest place.
use Rattle.std.proofs.Common.{suc, add-one, ◌≡◌, ◌≢◌, ◌<ℤ◌, ◌≤ℤ◌, ◌+ℤ◌, ℕ, ℤ, pos, List, [], ◌∷◌, map, filter, true, Option, None, Some, Ok, refl, sym, ap, subst, ◌∙◌, arith, slice_get, take}
use Rattle.std.specs.List.{AllByRecursion}
use Rattle.std.specs.List.Sorted.{IsPermutation, IsSorted}
use Rattle.std.proofs.lemmas.Int.{ints}
use Rattle.std.proofs.lemmas.List.Sorted.{All-permutation, IsPermutation-sym, IsPermutation-map, IsPermutation-trans, length_permutation}
use Rattle.std.proofs.lemmas.List.Elements.{All-from_recursion, recursion_from_All}
use Rattle.sqlite.specs.declared.types.Value.TheVariants.{Null, Int}
use Rattle.sqlite.specs.Order.{Row, column}
use Rattle.sqlite_value.specs.declared.keys.Key.{Key}
use Rattle.sqlite.specs.Collation.TheVariants.{Binary}
use Rattle.sqlite.specs.Term.{Term, col, lit}
use Rattle.sqlite.specs.Query.{Query, Output, output, output_cmp}
use Rattle.sqlite_sql.specs.Query.{IsAnswerAs}
use Rattle.sqlite_sql.specs.Program.{overlay}
use Rattle.sqlite.specs.Command.TheVariants.{Select}
use Rattle.sqlite.specs.Effect.{Answers}
use Rattle.sqlite.specs.State.{State, Shown, QueriesRow}
use Rattle.sqlite_tied.specs.Compute.{everything}
use Rattle.sqlite.proofs.Callers.{reads_as, first_as}
use Rattle.store_table.specs.Visit.{IsSelect}
use Rattle.store_table.specs.Rows.{TableRow, columns_of, IsRising, HoldsRows, last_place}
use Rattle.store_table.proofs.StatementLemmas.{seen}
use Rattle.store_table.proofs.AnswerLemmas.{passes, stored_matches, map_map, keeps_all}
use Rattle.store_table.proofs.LastPlaceLemmas.{below_next}
pub use Rattle.store_table.proofs.TextLemmas.{greatest_text}
use Rattle.store_table.proofs.TextLemmas.{plain_query, query_at, program}
use Rattle.store_table.proofs.MeansLemmas.{greatest_is}
use Rattle.store_table.proofs.ReadLemmas.{key_of, not_below}

abbrev by_desc : List (Term × Key)
by_desc = (col 1 0, record { collation = Binary; descending = true }) ∷ []

abbrev desc_query : Query
desc_query = record (plain_query [] (col 1 0 ∷ []) by_desc) { limit = lit (Int (pos 1)) }

abbrev desc_at : ℕ → Query
desc_at tree = record (query_at tree [] (col 1 0 ∷ []) by_desc) { limit = lit (Int (pos 1)) }

pub greatest_asks : IsSelect greatest_text
unfolding everything
greatest_asks = (refl, refl)

-- an output of the query has its place as its key and as its one column
abbrev IsPlaced : Output → Type 0
IsPlaced o = (column o.0 0 ≡ Int (key_of o)) × (column o.1 0 ≡ Int (key_of o))

all_down : (a b : ℤ) (os : List Output) → b ≤ℤ a → AllByRecursion (λ o. key_of o ≤ℤ b) os → AllByRecursion (λ o. key_of o ≤ℤ a) os
all_down a b [] h k = tt
all_down a b (o ∷ os) h k = (omega (arith, ints, h, k.0), all_down a b os h k.1)

-- the first is the greatest
falls : (x : Output) (os : List Output) → AllByRecursion IsPlaced (x ∷ os) → IsSorted (output_cmp desc_query) (x ∷ os) → AllByRecursion (λ o. key_of o ≤ℤ key_of x) os
falls x [] p s = tt
falls x (y ∷ os) p s =
    let le = not_below (key_of x) (key_of y) (column x.0 0) (column y.0 0) p.0.0 p.1.0.0 (s 0 x (omega arith) (omega arith)) in
    let more = falls y os p.1 (λ k d low lt. rw add-one (rw add-one at (s (suc k) d (omega arith) (omega (arith, lt))))) in
    (le, all_down (key_of x) (key_of y) os le more)

abbrev out : TableRow → Output
out d = output desc_query ([] ∷ columns_of d ∷ [])

placed : (ds : List TableRow) → AllByRecursion IsPlaced (map out ds)
placed [] = tt
placed (d ∷ ds) = ((refl, refl), placed ds)

up_to : (k : ℤ) (ds : List TableRow) → AllByRecursion (λ d. d.place <ℤ (k +ℤ pos 1)) ds → AllByRecursion (λ o. key_of o ≤ℤ k) (map out ds)
up_to k [] h = tt
up_to k (d ∷ ds) h = (omega (arith, ints, h.0), up_to k ds h.1)

last_at_most : (k : ℤ) (d : TableRow) (ds : List TableRow) → AllByRecursion (λ o. key_of o ≤ℤ k) (map out (d ∷ ds)) → last_place (d ∷ ds) ≤ℤ k
last_at_most k d [] h = h.0
last_at_most k d (e ∷ ds) h = last_at_most k e ds h.1

abbrev Finds : List TableRow → Option Row → Type 0
Finds docs None = docs ≡ []
Finds docs (Some row) = (docs ≢ []) × (column row 0 ≡ Int (last_place docs))

same_place : (a b : ℤ) → a ≤ℤ b → b ≤ℤ a → a ≡ b
same_place a b h k = omega (arith, ints, h, k)

first_is : (docs : List TableRow) (xs : List Output) → IsRising docs → IsPermutation (map out docs) xs → IsSorted (output_cmp desc_query) xs → Finds docs (slice_get (map (λ (o : Output). o.1) xs) 0)
first_is [] [] up p s = refl
first_is (d ∷ docs) [] up p s = absurd (let n = length_permutation _ _ p in cc)
first_is [] (x ∷ xs) up p s = absurd (let n = length_permutation _ _ p in cc)
first_is (d ∷ docs) (x ∷ xs) up p s =
    let moved = λ (P : Output → Type 0) (h : AllByRecursion P (map out (d ∷ docs))). recursion_from_All P (x ∷ xs) (All-permutation P (map out (d ∷ docs)) (x ∷ xs) p (All-from_recursion P (map out (d ∷ docs)) h)) in
    let back = λ (P : Output → Type 0) (h : AllByRecursion P (x ∷ xs)). recursion_from_All P (map out (d ∷ docs)) (All-permutation P (x ∷ xs) (map out (d ∷ docs)) (IsPermutation-sym (map out (d ∷ docs)) (x ∷ xs) p) (All-from_recursion P (x ∷ xs) h)) in
    let at = moved IsPlaced (placed (d ∷ docs)) in
    let low = (moved (λ o. key_of o ≤ℤ last_place (d ∷ docs)) (up_to (last_place (d ∷ docs)) (d ∷ docs) (below_next (d ∷ docs) up))).0 in
    let self : key_of x ≤ℤ key_of x = omega (arith, ints) in
    let high = last_at_most (key_of x) d docs (back (λ o. key_of o ≤ℤ key_of x) (self, falls x xs at s)) in
    ((λ e. cc), at.0.1 ∙ ap Int (same_place (key_of x) (last_place (d ∷ docs)) low high))

first_of_page : (xs : List Row) → slice_get (take 1 xs) 0 ≡ slice_get xs 0
first_of_page [] = refl
first_of_page (x ∷ xs) = refl

module _ (old new : State) (docs : List TableRow) (h : HoldsRows old docs) where
  of_answer : (rows : List Row) → Answers old.now (program (desc_at (seen h.table).tree)) [] rows → Finds docs (slice_get rows 0)
  of_answer rows answers =
      let a : IsAnswerAs Null (desc_at (seen h.table).tree) (overlay old.now.trees []) [] rows = answers.answer Null in
      let shown = λ (r : Row). output desc_query ([] ∷ r ∷ []) in
      let all = old.now.trees (seen h.table).tree in
      let kept : a.kept ≡ map shown all = a.distinct ∙ ap (map (output desc_query)) (a.grouped ∙ stored_matches [] old.now.trees [] (seen h.table).tree (seen h.table).stands.stored) ∙ map_map (output desc_query) (λ (r : Row). [] ∷ r ∷ []) (filter (passes [] []) all) ∙ ap (map shown) (keeps_all all) in
      let outs : IsPermutation (map out docs) (map shown all) = subst (λ xs. IsPermutation xs (map shown all)) (map_map shown columns_of docs) (IsPermutation-map shown (map columns_of docs) all (seen h.table).rows) in
      let same : IsPermutation (map out docs) a.ordered = IsPermutation-trans (map out docs) (map shown all) a.ordered outs (subst (λ k. IsPermutation k a.ordered) kept a.same) in
      subst (λ (found : Option Row). Finds docs found) (sym (ap (λ (rs : List Row). slice_get rs 0) a.shown ∙ first_of_page (map (λ (o : Output). o.1) a.ordered))) (first_is docs a.ordered (seen h.table).rising same a.sorted)

  pub greatest_row : (row : Row) → QueriesRow greatest_text [] old new (Ok row) → (docs ≢ []) × (column row 0 ≡ Int (last_place docs))
  greatest_row row q =
      let m = greatest_is old.now.schema (seen h.table).place (seen h.table).tree (seen h.table).stands in
      let got = first_as greatest_text [] old new old.now.schema refl (Select (program (desc_at (seen h.table).tree)) _) m.is m.plain m.unlisted row q in
      of_answer (row ∷ got.1.0) (record { typed = got.0; answer = got.1.1 })

  pub greatest_none : Shown greatest_text [] old new [] → docs ≡ []
  greatest_none s =
      let m = greatest_is old.now.schema (seen h.table).place (seen h.table).tree (seen h.table).stands in
      of_answer [] (reads_as greatest_text [] old new old.now.schema refl (Select (program (desc_at (seen h.table).tree)) _) m.is m.plain m.unlisted [] s)

-- What a query over the table returns.
use Rattle.std.proofs.Common.{◌≡◌, ◌^◌, ℕ, nat_le, List, [], ◌∷◌, ◌++◌, map, filter, flat_map, Bool, true, false, ◌&&◌, cond, if◌then◌else◌, refl, ap, subst, ◌∙◌, Some, is_eq}
use Rattle.std.specs.List.{list_all}
use Rattle.std.specs.List.Sorted.{IsPermutation, IsSorted}
use Rattle.std.proofs.lemmas.List.Sorted.{IsPermutation-map, IsPermutation-trans}
use Rattle.sqlite_trees.proofs.ListLemmas.{IsPermutation-filter}
use Rattle.sqlite.specs.declared.types.Value.{Value}
use Rattle.sqlite.specs.declared.types.Value.TheVariants.{Null}
use Rattle.sqlite_value.specs.declared.keys.Key.{Key}
use Rattle.sqlite.specs.Collation.TheVariants.{Binary}
use Rattle.sqlite.specs.Order.{Row, value_cmp}
use Rattle.sqlite_sql.specs.declared.ops.BinaryOp.TheVariants.{Compare}
use Rattle.sqlite_sql.specs.declared.ops.CompareOp.TheVariants.{Eq}
use Rattle.sqlite_sql.specs.Ops.{binary, is_true, from_truth}
use Rattle.sqlite_sql.specs.Term.{Term, holds}
use Rattle.sqlite_sql.specs.Query.{inner, end, matches_as, IsAnswerAs, Output, output, output_cmp}
use Rattle.sqlite_sql.specs.Program.{overlay}
use Rattle.sqlite.specs.Tree.{Trees}
use Rattle.sqlite.specs.Effect.{Answers, Database}
use Rattle.store_table.specs.Rows.{TableRow, columns_of, TableRows}
use Rattle.store_table.proofs.TextLemmas.{plain_query, query_at, program}

-- = on two values that are not NULL, as a test
pub and_true : (b : Bool) → b && true ≡ b
and_true true = refl
and_true false = refl

pub truth_is : (b : Bool) → is_true (from_truth (Some b)) ≡ b
truth_is true = refl
truth_is false = refl

abbrev pub passes : List Term → Row → Row → Bool
passes terms params r = list_all (holds (params ∷ r ∷ [])) terms

-- the rows that pass
pub matches_are : (lost : Value) (db : Trees) (terms : List Term) (params : Row) (rows : List Row)
    → flat_map (λ r. matches_as lost db terms end ((params ∷ []) ++ r ∷ [])) rows ≡ map (λ r. params ∷ r ∷ []) (filter (passes terms params) rows)
matches_are lost db terms params [] = refl
matches_are lost db terms params (d ∷ rows) = go (passes terms params d) (matches_are lost db terms params rows)
  where
    go : (b : Bool) → flat_map (λ r. matches_as lost db terms end ((params ∷ []) ++ r ∷ [])) rows ≡ map (λ r. params ∷ r ∷ []) (filter (passes terms params) rows)
        → (if b then (params ∷ d ∷ []) ∷ [] else []) ++ flat_map (λ r. matches_as lost db terms end ((params ∷ []) ++ r ∷ [])) rows ≡ map (λ r. params ∷ r ∷ []) (cond b (d ∷ filter (passes terms params) rows) (filter (passes terms params) rows))
    go true k = ap (λ rs. (params ∷ d ∷ []) ∷ rs) k
    go false k = k

-- the rows of a stored tree that pass
pub stored_matches : (terms : List Term) (trees : Trees) (params : Row) (tree : ℕ) → nat_le (2 ^ 31) tree ≡ false
    → matches_as Null (overlay trees []) terms (inner tree end) (params ∷ []) ≡ map (λ r. params ∷ r ∷ []) (filter (passes terms params) (trees tree))
stored_matches terms trees params tree stored =
    let own : overlay trees [] tree ≡ trees tree = rw stored refl in
    ap (λ rows. flat_map (λ r. matches_as Null (overlay trees []) terms end ((params ∷ []) ++ r ∷ [])) rows) own ∙ matches_are Null (overlay trees []) terms params (trees tree)

-- for a test on documents
stored_pass : (terms : List Term) (params : Row) (t : TableRow → Bool) (docs : List TableRow) → ((d : TableRow) → passes terms params (columns_of d) ≡ t d) → filter (passes terms params) (map columns_of docs) ≡ map columns_of (filter t docs)
stored_pass terms params t [] h = refl
stored_pass terms params t (d ∷ docs) h = go (t d) (h d) (stored_pass terms params t docs h)
  where
    go : (b : Bool) → passes terms params (columns_of d) ≡ b → filter (passes terms params) (map columns_of docs) ≡ map columns_of (filter t docs)
        → cond (passes terms params (columns_of d)) (columns_of d ∷ filter (passes terms params) (map columns_of docs)) (filter (passes terms params) (map columns_of docs)) ≡ map columns_of (cond b (d ∷ filter t docs) (filter t docs))
    go true e k = rw e (ap (λ rs. columns_of d ∷ rs) k)
    go false e k = rw e k

-- the outputs of a query, in some order that ORDER BY allows
pub record Outputs (filter_terms project : List Term) (order : List (Term × Key)) (params : Row) (t : TableRow → Bool) (docs : List TableRow) (rows : List Row) : Type 0 where
  pub all : List Output
  pub same : IsPermutation (map (λ d. output (plain_query filter_terms project order) (params ∷ columns_of d ∷ [])) (filter t docs)) all
  pub sorted : IsSorted (output_cmp (plain_query filter_terms project order)) all
  pub shown : rows ≡ map (λ o. o.1) all

-- every row passes if nothing is asked
pub keeps_all : (rows : List Row) → filter (passes [] []) rows ≡ rows
keeps_all [] = refl
keeps_all (r ∷ rows) = ap (λ rs. r ∷ rs) (keeps_all rows)

pub map_map : {A B C : Type 0} (f : B → C) (g : A → B) (xs : List A) → map f (map g xs) ≡ map (λ x. f (g x)) xs
map_map f g [] = refl
map_map f g (x ∷ xs) = ap (λ ys. f (g x) ∷ ys) (map_map f g xs)

pub outputs_of : (terms project : List Term) (order : List (Term × Key)) (params : Row) (t : TableRow → Bool) (docs : List TableRow) (db : Database) (rows : List Row)
    → (has : TableRows db docs) → ((d : TableRow) → list_all (holds (params ∷ columns_of d ∷ [])) terms ≡ t d) → Answers db (program (query_at has.tree terms project order)) params rows → Outputs terms project order params t docs rows
outputs_of terms project order params t docs db rows has test answers =
    let q = query_at has.tree terms project order in
    let a : IsAnswerAs Null q (overlay db.trees []) params rows = answers.answer Null in
    let env = λ (r : Row). params ∷ r ∷ [] in
    let found = filter (passes terms params) (db.trees has.tree) in
    let kept : a.kept ≡ map (λ r. output q (env r)) found = a.distinct ∙ ap (map (output q)) (a.grouped ∙ stored_matches terms db.trees params has.tree has.stands.stored) ∙ map_map (output q) env found in
    let moved : IsPermutation (map columns_of (filter t docs)) found = subst (λ xs. IsPermutation xs found) (stored_pass terms params t docs test) (IsPermutation-filter (passes terms params) (map columns_of docs) (db.trees has.tree) has.rows) in
    let outs = subst (λ xs. IsPermutation xs (map (λ r. output q (env r)) found)) (map_map (λ r. output q (env r)) columns_of (filter t docs)) (IsPermutation-map (λ r. output q (env r)) (map columns_of (filter t docs)) found moved) in
    record { all = a.ordered; same = IsPermutation-trans _ _ a.ordered outs (subst (λ k. IsPermutation k a.ordered) kept a.same); sorted = a.sorted; shown = a.shown }

-- a column that equals a parameter
pub equal_is : (a b : Value) (v : Bool) → Rattle.sqlite_sql.specs.Ops.is_null a ≡ false → Rattle.sqlite_sql.specs.Ops.is_null b ≡ false → is_eq (value_cmp a b) ≡ v → is_true (binary (Compare Eq Binary) a b) ≡ v
unfolding binary
equal_is a b v p q h = rw (p, q, h) (truth_is v)

-- A table of this schema that lists rows in order shows them.
use Rattle.std.proofs.Common.{IsTrue, subst₂, ◌≡◌, ◌^◌, nat_le, slice_get, zero, suc, ℕ, List, [], ◌∷◌, map, filter, drop, true, false, ◌&&◌, Some, refl, sym, ap, ap₂, subst, ◌∙◌}
use Rattle.std.specs.List.{AllByRecursion}
use Rattle.std.specs.List.Sorted.{IsPermutation}
use Rattle.std.proofs.lemmas.List.Sorted.{IsPermutation-map, IsPermutation-sym}
use Rattle.std.proofs.lemmas.Bool.{and_parts}
use Rattle.sqlite.specs.declared.types.Value.TheVariants.{Null, Int, Text, Blob}
use Rattle.sqlite.specs.Term.{col}
use Rattle.sqlite.specs.Order.{Row}
use Rattle.sqlite.specs.Table.{Table}
use Rattle.sqlite.specs.Query.{Query}
use Rattle.sqlite_sql.specs.Query.{IsAnswerAs, Output, output}
use Rattle.sqlite_sql.specs.Program.{overlay}
use Rattle.sqlite_schema.specs.declared.schema.Constraint.TheVariants.{Datatype, NotNull}
use Rattle.sqlite_schema.specs.Rules.{passes, are_typed, are_present, has_computed}
use Rattle.sqlite.specs.Effect.{Database, IsDatabase, Answers}
use Rattle.sqlite.specs.Command.TheVariants.{Select}
use Rattle.sqlite.specs.State.{State, IsLive}
use Rattle.sqlite.proofs.Callers.{reads_as}
use Rattle.store_table.specs.Schema.{documents, documents_at, HasDocuments, HasStoreTable}
use Rattle.store_table.specs.Rows.{TableRow, columns_of, RowsIn, HoldsRows, IsRising}
use Rattle.store_table.specs.Open.{all_text, Reads}
use Rattle.store_table.specs.Cells.{doc_of}
use Rattle.store_table.specs.Check.{AreGood}
use Rattle.store_table.proofs.TextLemmas.{all_query, query_at, program, by_place}
use Rattle.store_table.proofs.MeansLemmas.{all_is}
use Rattle.store_table.proofs.ReadLemmas.{in_order, answers_of}
use Rattle.store_table.proofs.AnswerLemmas.{outputs_of, stored_matches, passes as keeps, map_map, keeps_all}
use Rattle.store_table.proofs.TypedLemmas.{IsTyped, typed_row}
use Rattle.store_table.proofs.ListedRowLemmas.{put_down, put_down_is}
use Rattle.store_table.proofs.StatementLemmas.{lists_own, seen, unseen}
use Rattle.store_table.proofs.CheckLemmas.{good_rises}

abbrev all_at : ℕ → Query
all_at tree = query_at tree [] (col 1 0 ∷ col 1 2 ∷ col 1 3 ∷ col 1 4 ∷ []) by_place

abbrev cols : Row → Row
cols r = (output all_query ([] ∷ r ∷ [])).1

-- what the query returns of any rows
pub answered : (db : Database) (tree : ℕ) (rows : List Row) → nat_le (2 ^ 31) tree ≡ false → Answers db (program (all_at tree)) [] rows → IsPermutation (map cols (db.trees tree)) rows
answered db tree rows stored answers =
    let a : IsAnswerAs Null (all_at tree) (overlay db.trees []) [] rows = answers.answer Null in
    let env = λ (r : Row). [] ∷ r ∷ [] in
    let kept : a.kept ≡ map (λ r. output all_query (env r)) (db.trees tree) = a.distinct ∙ ap (map (output all_query)) (a.grouped ∙ stored_matches [] db.trees [] tree stored) ∙ map_map (output all_query) env (filter (keeps [] []) (db.trees tree)) ∙ ap (map (λ r. output all_query (env r))) (keeps_all (db.trees tree)) in
    let moved = IsPermutation-map (λ (x : Output). x.1) _ a.ordered (subst (λ k. IsPermutation k a.ordered) kept a.same) in
    subst₂ (λ x y. IsPermutation x y) (map_map (λ (x : Output). x.1) (λ r. output all_query (env r)) (db.trees tree)) (sym a.shown) moved

-- each row of the table is typed
typed_all : (rows : List Row) → AllByRecursion (λ row. (are_typed (Some 0) 0 documents.columns (drop 1 row) && has_computed documents row) ≡ true) rows → AllByRecursion (λ row. are_present (Some 0) 0 documents.columns row ≡ true) rows
    → map put_down (map cols rows) ≡ rows
typed_all [] t p = refl
typed_all (r ∷ rows) t p =
    let typed = typed_row r (and_parts (are_typed (Some 0) 0 documents.columns (drop 1 r)) (has_computed documents r) t.0).0 p.0 in
    ap₂ (λ x xs. x ∷ xs) (one r typed) (typed_all rows t.1 p.1)
  where
    one : (row : Row) → IsTyped row → put_down (cols row) ≡ row
    one row k = subst (λ (x : Row). put_down (cols x) ≡ x) (sym k.is) refl

-- what holds of each table holds of the one at a place
of_place : (P : Table → Type 0) (ts : List Table) (at : ℕ) (t : Table) → AllByRecursion P ts → slice_get ts at ≡ Some t → P t
of_place P [] at t h is = absurd (cc)
of_place P (x ∷ ts) zero t h is = let same : x ≡ t = cc in subst P same h.0
of_place P (x ∷ ts) (suc at) t h is = of_place P ts at t h.1 is

put_down_all : (db : Database) (place tree : ℕ) → HasDocuments db.schema.tables place tree → IsDatabase db → map put_down (map cols (db.trees tree)) ≡ db.trees tree
put_down_all db place tree has live =
    let rules = live.obeys.rules in
    let t = of_place (λ tb. AllByRecursion (λ row. passes Datatype db.schema db.trees tb row ≡ true) (db.trees tb.tree)) db.schema.tables place (documents_at tree) (rules Datatype) has.at in
    let p = of_place (λ tb. AllByRecursion (λ row. passes NotNull db.schema db.trees tb row ≡ true) (db.trees tb.tree)) db.schema.tables place (documents_at tree) (rules NotNull) has.at in
    typed_all (db.trees tree) t p

pub listed_rows : (old new : State) (docs : List TableRow) → HasStoreTable old.now.schema → IsDatabase old.now → Reads old new docs → IsRising docs → RowsIn old.now docs
listed_rows old new docs (place, tree, has) live h up =
    let m = all_is old.now.schema place tree has in
    let read : Answers old.now (program (all_at tree)) [] h.rows = reads_as all_text [] old new old.now.schema refl (Select (program (all_at tree)) _) m.is m.plain m.unlisted h.rows h.answered in
    let moved = IsPermutation-map put_down (map cols (old.now.trees tree)) h.rows (answered old.now tree h.rows has.stored read) in
    let both = subst₂ (λ x y. IsPermutation x y) (put_down_all old.now place tree has live) (put_down_is h.rows h.typed ∙ ap (map columns_of) (sym h.same)) moved in
    unseen (record { place = place; tree = tree; listed = lists_own old.now live; stands = has; rows = IsPermutation-sym (old.now.trees tree) (map columns_of docs) both; rising = up })

-- an open on a table of this schema
pub listed_shows : (accepts : List ℕ → List ℕ → List ℕ → Type 0) (old new : State) (docs : List TableRow) → HasStoreTable old.now.schema → IsDatabase old.now → old.in_transaction ≡ false → old.now ≡ old.committed
    → Reads old new docs → AreGood accepts docs → HoldsRows new docs
listed_shows accepts old new docs has live auto settled h good =
    let u = h.unchanged in
    record {
      is_open = u.0.is_open;
      autocommit = u.0.mode ∙ auto;
      settled = u.0.now_is ∙ settled ∙ sym u.0.committed_is;
      table = subst (λ (d : Database). RowsIn d docs) (sym u.0.now_is) (listed_rows old new docs has live h (good_rises accepts docs good));
    }

as_read : (docs : List TableRow) → map doc_of (map (λ d. Int d.place ∷ Text d.coll ∷ Blob d.idkey ∷ Blob d.body ∷ []) (filter (λ (_ : TableRow). true) docs)) ≡ docs
as_read [] = refl
as_read (d ∷ docs) = ap (λ ds. d ∷ ds) (as_read docs)

-- the rows that are read of a table are those that it shows
pub read_shown : (old new : State) (shown docs : List TableRow) → HoldsRows old shown → Reads old new docs → docs ≡ shown
read_shown old new shown docs h r =
    let project = col 1 0 ∷ col 1 2 ∷ col 1 3 ∷ col 1 4 ∷ [] in
    let m = all_is old.now.schema (seen h.table).place (seen h.table).tree (seen h.table).stands in
    let answers = answers_of all_text [] old new shown _ [] project by_place r.rows h m r.answered in
    let ordered = in_order [] project [] (λ _. true) shown r.rows (seen h.table).rising (outputs_of [] project by_place [] (λ _. true) shown old.now r.rows (seen h.table) (λ _. refl) answers) in
    r.same ∙ ap (map doc_of) ordered ∙ as_read shown

-- a table that lists good rows shows them
pub shows_read : (accepts : List ℕ → List ℕ → List ℕ → Type 0) (old new : State) (docs : List TableRow) → HasStoreTable old.now.schema → IsLive old → old.in_transaction ≡ false → (IsTrue old.is_open → old.now ≡ old.committed)
    → Reads old new docs → AreGood accepts docs → HoldsRows old docs
shows_read accepts old new docs has live auto settled h good =
    let was = h.unchanged.0.was_open in
    record { is_open = was; autocommit = auto; settled = settled was; table = listed_rows old new docs has (live was).0 h (good_rises accepts docs good) }

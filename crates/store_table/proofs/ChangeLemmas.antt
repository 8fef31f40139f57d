-- What the DELETE and the UPDATE by place do.
use Rattle.std.proofs.Common.{◌≡◌, ◌⊎◌, inl, inr, ℕ, ℤ, List, [], ◌∷◌, map, filter, Bool, true, false, None, Ok, Err, Result, refl, sym, ap, subst, ◌∙◌, Option, is_eq, OnOk, arith}
use Rattle.std.specs.List.{list_all}
use Rattle.std.specs.List.Sorted.{IsPermutation}
use Rattle.std.proofs.lemmas.List.Sorted.{length_permutation}
use Rattle.sqlite.specs.declared.types.Value.TheVariants.{Int, Blob}
use Rattle.sqlite.specs.Order.{Row}
use Rattle.sqlite_value.proofs.OrderLemmas.{value_cmp-Int}
use Rattle.sqlite.specs.Tree.{Trees}
use Rattle.sqlite_trees.specs.Tree.{put_row, without_rowid}
use Rattle.sqlite.specs.Term.{Term, col}
use Rattle.sqlite_sql.specs.Term.{holds}
use Rattle.sqlite.specs.Query.{Output, output}
use Rattle.sqlite.specs.Command.TheVariants.{Delete, Update}
use Rattle.sqlite.specs.Edit.{Edit, edit_of, edited}
use Rattle.sqlite_rules.specs.Edit.{taken_by}
use Rattle.sqlite.specs.Rowids.TheVariants.{Given}
use Rattle.sqlite_rules.specs.Calls.{ids_of}
use Rattle.sqlite.specs.Does.{Tally, Does}
use Rattle.sqlite.specs.Rows.{Written}
use Rattle.sqlite.specs.Effect.{Database, IsDatabase, Answers}
use Rattle.sqlite.specs.declared.run.Mode.{Mode}
use Rattle.sqlite.specs.declared.error.Error.{Error}
use Rattle.sqlite.specs.State.{State, mode_of, Executes, CommitsBy}
use Rattle.sqlite.specs.Listing.{understood}
use Rattle.sqlite.proofs.Callers.{runs_as, one_step, one_permutation, statement_of}
use Rattle.store_table.specs.Schema.{documents_at}
use Rattle.store_table.specs.Rows.{TableRow, columns_of, TableRows, HasRows, HoldsRows, is_at, without_place, with_body_at}
use Rattle.store_table.proofs.RowLemmas.{cast_null, cast_int}
use Rattle.store_table.proofs.PlaceLemmas.{at_place, changed_at, none_changed, rising_without, rising_changed}
use Rattle.store_table.proofs.AnswerLemmas.{and_true, outputs_of, equal_is}
use Rattle.store_table.proofs.StatementLemmas.{commits_as, at_table, unacted, seen, unseen}
use Rattle.store_table.specs.Beside.{SparesOthers}
use Rattle.store_table.proofs.OthersLemmas.{trees_have}
use Rattle.store_table.proofs.PermLemmas.{gone_perm, back_perm}
use Rattle.store_table.proofs.InsertLemmas.{went, same_value, table_with}
use Rattle.store_table.proofs.TextLemmas.{plain_query, equals, delete_text, update_text}
use Rattle.store_table.proofs.CommandLemmas.{program_at, body_project}
use Rattle.store_table.proofs.MeansLemmas.{delete_is, update_is}

empty_list : {X : Type 0} (xs ys : List X) → xs ≡ [] → IsPermutation xs ys → ys ≡ []
empty_list xs [] e h = refl
empty_list xs (y ∷ ys) e h = absurd (let n = length_permutation xs (y ∷ ys) h in let z = ap Rattle.std.proofs.Common.length e in omega (arith, n, z))

module _ (p : ℤ) (more : Row) where
  abbrev params : Row
  params = Int p ∷ more

  at_test : (d : TableRow) → list_all (holds (params ∷ columns_of d ∷ [])) (equals 0 0 ∷ []) ≡ is_at p d
  at_test d = and_true _ ∙ equal_is (Int d.place) (Int p) (is_at p d) refl refl (ap is_eq (value_cmp-Int d.place p))

  -- the rows that a query by place gives
  abbrev pub FoundAt : List Term → List TableRow → List Row → Type 0
  FoundAt project docs rows = ((filter (is_at p) docs ≡ []) × (rows ≡ [])) ⊎ ((d : TableRow) × (filter (is_at p) docs ≡ d ∷ []) × (d.place ≡ p) × (rows ≡ (output (plain_query (equals 0 0 ∷ []) project []) (params ∷ columns_of d ∷ [])).1 ∷ []))

  pub by_place : (project : List Term) (docs : List TableRow) (db : Database) (rows : List Row) → (has : TableRows db docs) → Answers db (program_at has.tree project) params rows → FoundAt project docs rows
  by_place project docs db rows has answers =
      let q = plain_query (equals 0 0 ∷ []) project [] in
      let o = outputs_of (equals 0 0 ∷ []) project [] params (is_at p) docs db rows has at_test answers in
      let out = λ (d : TableRow). output q (params ∷ columns_of d ∷ []) in
      elim (at_place p docs has.rising) [
        | inl none ↦ inl (none, o.shown ∙ ap (map (λ (x : Output). x.1)) (empty_list (map out (filter (is_at p) docs)) o.all (ap (map out) none) o.same))
        | inr one ↦ inr (one.0, one.1, one.2, o.shown ∙ ap (map (λ (x : Output). x.1)) (one_permutation (out one.0) o.all (subst (λ k. IsPermutation k o.all) (ap (map out) one.1) o.same)))
      ]

abbrev pub delete_command : ℕ → ℕ → Rattle.sqlite.specs.Command.Command
delete_command place tree = Delete place (program_at tree (col 1 0 ∷ []))

none_without : (p : ℤ) (docs : List TableRow) → filter (is_at p) docs ≡ [] → without_place p docs ≡ docs
none_without p [] h = refl
none_without p (d ∷ docs) h = go (is_at p d) refl (none_without p docs)
  where
    go : (b : Bool) → is_at p d ≡ b → (filter (is_at p) docs ≡ [] → without_place p docs ≡ docs) → without_place p (d ∷ docs) ≡ d ∷ docs
    go true e k = absurd (let x = rw e at h in cc)
    go false e k = rw e (ap (λ ds. d ∷ ds) (k (rw e at h)))

pub deletes : (limit : Option ℕ) (mode : Mode) (text : List ℕ) (p : ℤ) (docs : List TableRow) (db : Database) (tally : Tally) (after : Database) → (rows : TableRows db docs)
    → Does limit mode (Int p ∷ []) db text None (delete_command rows.place rows.tree) (Ok (tally, after)) → IsDatabase after → TableRows after (without_place p docs) × SparesOthers db after
deletes limit mode text p docs db tally after rows h sound =
    let table = documents_at rows.tree in
    let done = went (at_table limit mode (Int p ∷ []) db (delete_command rows.place rows.tree) rows.place table (Ok (tally, after)) rows.stands.at h) in
    let now = ap (λ (x : Tally × Database). x.1) (same_value (went (went done.2).2).2) in
    let from = went done.1 in
    let written = went from.2 in
    let trees : done.0.trees ≡ written.0 = ap (λ (it : Written). it.trees) (same_value written.2) in
    let edit : Edit = edit_of db.trees table (ids_of from.0) Given 0 [] in
    let step = one_step db.schema mode.keys db.trees written.0 edit (unacted db.schema mode.keys rows.tree (taken_by db.trees edit) edit.news rows.place rows.stands) written.1 in
    let found = by_place p [] (col 1 0 ∷ []) docs db from.0 rows from.1 in
    let left : IsPermutation (map columns_of (without_place p docs)) (edited db.trees edit) = elim found [
      | inl none ↦ rw (none.1, none_without p docs none.0) rows.rows
      | inr one ↦ rw (one.3, one.2) (gone_perm p docs (db.trees rows.tree) rows.rows)
    ] in
    table_with db after docs (without_place p docs) rows written.0 (edited db.trees edit) (ap (λ (x : Database). x.schema) now) (ap (λ (x : Database). x.trees) now ∙ trees) step.rows left (rising_without p docs rows.rising) step.tables sound

abbrev pub update_command : ℕ → ℕ → Rattle.sqlite.specs.Command.Command
update_command place tree = Update place (program_at tree body_project)

-- an UPDATE of the row at a place, whose query gives the changed row
pub changes_row : (f : TableRow → TableRow) → ((d : TableRow) → (f d).place ≡ d.place) → (project : List Term) (limit : Option ℕ) (mode : Mode) (text : List ℕ) (p : ℤ) (more : Row) (docs : List TableRow) (db : Database) (tally : Tally) (after : Database) → (rows : TableRows db docs)
    → ((found : List Row) → FoundAt p more project docs found → IsPermutation (map columns_of (changed_at p f docs)) (edited db.trees (edit_of db.trees (documents_at rows.tree) (ids_of found) Given 1 found)))
    → Does limit mode (Int p ∷ more) db text None (Update rows.place (program_at rows.tree project)) (Ok (tally, after)) → IsDatabase after → TableRows after (changed_at p f docs) × SparesOthers db after
changes_row f stays project limit mode text p more docs db tally after rows fits h sound =
    let table = documents_at rows.tree in
    let done = went (at_table limit mode (Int p ∷ more) db (Update rows.place (program_at rows.tree project)) rows.place table (Ok (tally, after)) rows.stands.at h) in
    let now = ap (λ (x : Tally × Database). x.1) (same_value (went (went done.2).2).2) in
    let from = went done.1 in
    let written = went from.2 in
    let trees : done.0.trees ≡ written.0 = ap (λ (it : Written). it.trees) (same_value written.2) in
    let edit : Edit = edit_of db.trees table (ids_of from.0) Given 1 from.0 in
    let step = one_step db.schema mode.keys db.trees written.0 edit (unacted db.schema mode.keys rows.tree (taken_by db.trees edit) edit.news rows.place rows.stands) written.1 in
    let left = fits from.0 (by_place p more project docs db from.0 rows from.1) in
    table_with db after docs (changed_at p f docs) rows written.0 (edited db.trees edit) (ap (λ (x : Database). x.schema) now) (ap (λ (x : Database). x.trees) now ∙ trees) step.rows left (rising_changed p f stays docs rows.rising) step.tables sound

pub updates : (limit : Option ℕ) (mode : Mode) (text : List ℕ) (p : ℤ) (body : List ℕ) (docs : List TableRow) (db : Database) (tally : Tally) (after : Database) → (rows : TableRows db docs)
    → Does limit mode (Int p ∷ Blob body ∷ []) db text None (update_command rows.place rows.tree) (Ok (tally, after)) → IsDatabase after → TableRows after (with_body_at p body docs) × SparesOthers db after
updates limit mode text p body docs db tally after rows h sound =
    let f = λ (d : TableRow). record d { body = body } in
    changes_row f (λ d. refl) body_project limit mode text p (Blob body ∷ []) docs db tally after rows
    (λ found at. elim at [
      | inl none ↦ rw (none.1, none_changed p f docs none.0) rows.rows
      | inr one ↦ rw (one.3, cast_null, cast_int one.0.place)
          (subst (λ q. IsPermutation (map columns_of (with_body_at p body docs)) (put_row (columns_of (f one.0)) (without_rowid q (db.trees rows.tree)))) (sym one.2) (back_perm p f (λ d. refl) one.0 docs (db.trees rows.tree) rows.rising one.1 one.2 rows.rows))
    ]) h sound

module _ (p : ℤ) (old new : State) (docs : List TableRow) (h : HoldsRows old docs) where
  abbrev here : ℕ
  here = (seen h.table).place

  abbrev there : ℕ
  there = (seen h.table).tree

  pub removes : (r : Result ℕ Error) → Executes delete_text (Int p ∷ []) old new r → OnOk r (HoldsRows new (without_place p docs) × SparesOthers old.now new.now)
  removes (Err e) ran = tt
  removes (Ok count) ran =
      let m = delete_is old.now.schema here there (seen h.table).stands in
      let w = runs_as delete_text (Int p ∷ []) old new old.now.schema refl (delete_command here there) m.is m.plain count ran in
      let made = deletes old.step_limit (mode_of old) (statement_of delete_text (understood old.now.schema delete_text)) p docs old.now w.tally new.now (seen h.table) w.changed w.sound in
      let auto = h.autocommit in
      (record { is_open = w.shown.is_open; autocommit = w.shown.mode ∙ auto; settled = sym (w.shown.committed_is ∙ rw auto); table = unseen made.0 }, made.1)

  pub remove_commits : (db : Trees) → CommitsBy delete_text (Int p ∷ []) old db → HasRows old.now db (without_place p docs)
  remove_commits db commits =
      let m = delete_is old.now.schema here there (seen h.table).stands in
      let c = commits_as delete_text (Int p ∷ []) old db old.now.schema (delete_command here there) refl m.is m.plain (λ e. cc) (λ name e. cc) commits in
      let made = deletes old.step_limit (mode_of old) (statement_of delete_text (understood old.now.schema delete_text)) p docs old.now c.0 c.1 (seen h.table) c.2 c.3 in
      subst (λ t. HasRows old.now t (without_place p docs)) (sym c.4) (trees_have old.now c.1 (without_place p docs) (unseen made.0) made.1)

  pub rewrites : (body : List ℕ) (r : Result ℕ Error) → Executes update_text (Int p ∷ Blob body ∷ []) old new r → OnOk r (HoldsRows new (with_body_at p body docs) × SparesOthers old.now new.now)
  rewrites body (Err e) ran = tt
  rewrites body (Ok count) ran =
      let m = update_is old.now.schema here there (seen h.table).stands in
      let w = runs_as update_text (Int p ∷ Blob body ∷ []) old new old.now.schema refl (update_command here there) m.is m.plain count ran in
      let made = updates old.step_limit (mode_of old) (statement_of update_text (understood old.now.schema update_text)) p body docs old.now w.tally new.now (seen h.table) w.changed w.sound in
      let auto = h.autocommit in
      (record { is_open = w.shown.is_open; autocommit = w.shown.mode ∙ auto; settled = sym (w.shown.committed_is ∙ rw auto); table = unseen made.0 }, made.1)

  pub rewrite_commits : (body : List ℕ) (db : Trees) → CommitsBy update_text (Int p ∷ Blob body ∷ []) old db → HasRows old.now db (with_body_at p body docs)
  rewrite_commits body db commits =
      let m = update_is old.now.schema here there (seen h.table).stands in
      let c = commits_as update_text (Int p ∷ Blob body ∷ []) old db old.now.schema (update_command here there) refl m.is m.plain (λ e. cc) (λ name e. cc) commits in
      let made = updates old.step_limit (mode_of old) (statement_of update_text (understood old.now.schema update_text)) p body docs old.now c.0 c.1 (seen h.table) c.2 c.3 in
      subst (λ t. HasRows old.now t (with_body_at p body docs)) (sym c.4) (trees_have old.now c.1 (with_body_at p body docs) (unseen made.0) made.1)

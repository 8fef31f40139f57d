-- What the INSERT does.
use Rattle.std.proofs.Common.{IsTrue, arith, ◌≤◌, OnOk, OnErr, ◌≡◌, ◌≢◌, ◌⊎◌, inl, inr, ℕ, List, [], ◌∷◌, ◌++◌, map, None, Ok, Err, Result, refl, sym, ap, subst, ◌∙◌, Option}
use Rattle.sqlite.specs.declared.types.Value.TheVariants.{Int, Text, Blob}
use Rattle.sqlite.specs.Order.{Row}
use Rattle.sqlite.specs.Tree.{Trees}
use Rattle.sqlite.specs.Command.TheVariants.{Insert}
use Rattle.sqlite.specs.Source.TheVariants.{Values}
use Rattle.sqlite.specs.Edit.{edit_of, edited}
use Rattle.sqlite_rules.specs.Edit.{taken_by}
use Rattle.sqlite.specs.Rowids.TheVariants.{Chosen}
use Rattle.sqlite.specs.Does.{Tally, Does}
use Rattle.sqlite.specs.Rows.{Written}
use Rattle.sqlite.specs.Effect.{Database, IsDatabase}
use Rattle.sqlite.specs.declared.run.Mode.{Mode}
use Rattle.sqlite.specs.State.{State, mode_of, Executes, CommitsBy, HasCleanDisk, Survives, ExecutesInside, IsUnchanged, IsRolledBack}
use Rattle.sqlite.proofs.StateLemmas.{survives_weaker}
use Rattle.sqlite_trees.specs.View.{doubt}
use Rattle.sqlite.specs.declared.error.Error.{Error}
use Rattle.sqlite.specs.Listing.{understood}
use Rattle.store_table.proofs.StatementLemmas.{commits_as, lists_own, at_table, unacted, seen, unseen}
use Rattle.sqlite.proofs.Callers.{runs_as, one_step, statement_of}
use Rattle.store_table.specs.Schema.{documents_at, HasDocuments}
use Rattle.store_table.specs.Rows.{TableRow, columns_of, IsRising, AreBelow, TableRows, RowsIn, HasRows, HoldsRows, Inside, KeepsCommitted}
use Rattle.std.specs.List.{AllByRecursion}
use Rattle.std.specs.List.Sorted.{IsPermutation}
use Rattle.sqlite.specs.Schema.{Schema}
use Rattle.sqlite_trees.specs.Tree.{put_row}
use Rattle.store_table.specs.Beside.{SparesOthers}
use Rattle.store_table.proofs.OthersLemmas.{spared_by, trees_have}
use Rattle.store_table.proofs.PermLemmas.{add_perm}
use Rattle.store_table.proofs.RowLemmas.{cast_null, cast_int, rising_last}
use Rattle.store_table.proofs.TextLemmas.{insert_text, insert_terms}
use Rattle.store_table.proofs.MeansLemmas.{insert_is}

abbrev pub given : TableRow → Row
given d = Int d.place ∷ Text d.coll ∷ Blob d.idkey ∷ Blob d.body ∷ []

-- a part that gave a value did not stop on the way
pub went : {B E R : Type 0} {b : B} {Stops : E → Type 0} → ((stop : E) × Stops stop × (Ok b ≡ Err stop)) ⊎ R → R
went (inl stopped) = absurd (let e = stopped.2 in cc)
went (inr on) = on

pub same_value : {B E : Type 0} {a b : B} → ◌≡◌ {A = Result B E} (Ok a) (Ok b) → a ≡ b
same_value e = cc

-- the table with other rows, if the other tables have theirs
pub table_with : (db after : Database) (docs made : List TableRow) (rows : TableRows db docs) (trees : Trees) (all : List Row) → after.schema ≡ db.schema → after.trees ≡ trees → trees rows.tree ≡ all → IsPermutation (map columns_of made) all → IsRising made
    → AllByRecursion (λ t. t.tree ≢ rows.tree → trees t.tree ≡ db.trees t.tree) db.schema.tables → IsDatabase after → TableRows after made × SparesOthers db after
table_with db after docs made rows trees all schema is there perm rising kept sound = (
  record {
    place = rows.place;
    tree = rows.tree;
    listed = lists_own after sound;
    stands = subst (λ (s : Schema). HasDocuments s.tables rows.place rows.tree) (sym schema) rows.stands;
    rows = subst (λ rs. IsPermutation (map columns_of made) rs) (sym (ap (λ (t : Trees). t rows.tree) is ∙ there)) perm;
    rising = rising;
  },
  spared_by db after rows.place rows.tree trees rows.stands schema is kept,
)

pub inserts : (limit : Option ℕ) (mode : Mode) (text : List ℕ) (d : TableRow) (docs : List TableRow) (db : Database) (tally : Tally) (after : Database) → (rows : TableRows db docs) → AreBelow d.place docs
    → Does limit mode (given d) db text None (Insert rows.place (Values insert_terms 5)) (Ok (tally, after)) → IsDatabase after → TableRows after (docs ++ d ∷ []) × SparesOthers db after
inserts limit mode text d docs db tally after rows below h sound =
    let table = documents_at rows.tree in
    let done = went (at_table limit mode (given d) db (Insert rows.place (Values insert_terms 5)) rows.place table (Ok (tally, after)) rows.stands.at h) in
    let now = ap (λ (p : Tally × Database). p.1) (same_value (went (went done.2).2).2) in
    let from = went done.1 in
    let written = went (went from.2).2 in
    let counted = went written.2 in
    let trees : done.0.trees ≡ written.0 = ap (λ (it : Written). it.trees) (same_value counted.2) ∙ same_value counted.1 in
    let added = edit_of db.trees table [] Chosen 0 from.0 in
    let step = one_step db.schema mode.keys db.trees written.0 added (unacted db.schema mode.keys rows.tree (taken_by db.trees added) added.news rows.place rows.stands) written.1 in
    let edit : edited db.trees (edit_of db.trees table [] Chosen 0 from.0) ≡ put_row (columns_of d) (db.trees rows.tree) =
    ap (λ all. edited db.trees (edit_of db.trees table [] Chosen 0 all)) from.1.1 ∙ rw (cast_null, cast_int) refl in
    table_with db after docs (docs ++ d ∷ []) rows written.0 (put_row (columns_of d) (db.trees rows.tree)) (ap (λ (x : Database). x.schema) now) (ap (λ (x : Database). x.trees) now ∙ trees) (step.rows ∙ edit) (add_perm d docs (db.trees rows.tree) below rows.rows) (rising_last d docs rows.rising below) step.tables sound

pub adds : (d : TableRow) (old new : State) (docs : List TableRow) (count : ℕ) → HoldsRows old docs → AreBelow d.place docs → Executes insert_text (given d) old new (Ok count) → HoldsRows new (docs ++ d ∷ []) × SparesOthers old.now new.now
adds d old new docs count h below ran =
    let m = insert_is old.now.schema (seen h.table).place (seen h.table).tree (seen h.table).stands in
    let w = runs_as insert_text (given d) old new old.now.schema refl (Insert (seen h.table).place (Values insert_terms 5)) m.is m.plain count ran in
    let made = inserts old.step_limit (mode_of old) (statement_of insert_text (understood old.now.schema insert_text)) d docs old.now w.tally new.now (seen h.table) below w.changed w.sound in
    let auto = h.autocommit in
    (record { is_open = w.shown.is_open; autocommit = w.shown.mode ∙ auto; settled = sym (w.shown.committed_is ∙ rw auto); table = unseen made.0 }, made.1)

pub add_commits : (d : TableRow) (old : State) (docs : List TableRow) (db : Trees) → HoldsRows old docs → AreBelow d.place docs → CommitsBy insert_text (given d) old db → HasRows old.now db (docs ++ d ∷ [])
add_commits d old docs db h below commits =
    let m = insert_is old.now.schema (seen h.table).place (seen h.table).tree (seen h.table).stands in
    let c = commits_as insert_text (given d) old db old.now.schema (Insert (seen h.table).place (Values insert_terms 5)) refl m.is m.plain (λ e. cc) (λ name e. cc) commits in
    let made = inserts old.step_limit (mode_of old) (statement_of insert_text (understood old.now.schema insert_text)) d docs old.now c.0 c.1 (seen h.table) below c.2 c.3 in
    subst (λ t. HasRows old.now t (docs ++ d ∷ [])) (sym c.4) (trees_have old.now c.1 (docs ++ d ∷ []) (unseen made.0) made.1)

module _ (d : TableRow) (old new : State) (r : Result ℕ Error) (clean : doubt old.is_clean ≤ doubt new.is_clean)
    (last : HasCleanDisk old → (docs : List TableRow) → HoldsRows old docs → AreBelow d.place docs) where
  pub add_ok : (HasCleanDisk new → Executes insert_text (given d) old new r) → HasCleanDisk new → (docs : List TableRow) → HoldsRows old docs → OnOk r (HoldsRows new (docs ++ d ∷ []) × SparesOthers old.now new.now)
  add_ok ran now docs h = go r (ran now)
    where
      go : (x : Result ℕ Error) → Executes insert_text (given d) old new x → OnOk x (HoldsRows new (docs ++ d ∷ []) × SparesOthers old.now new.now)
      go (Ok count) e = adds d old new docs count h (last (omega (arith, clean, now)) docs h) e
      go (Err why) e = tt

  pub add_crash : Survives old new (CommitsBy insert_text (given d) old) → Survives old new (λ trees. (docs : List TableRow) → HoldsRows old docs → HasRows old.now trees (docs ++ d ∷ []))
  add_crash = survives_weaker old new _ _ (λ now db commits docs h. add_commits d old docs db h (last (omega (arith, clean, now)) docs h) commits)

-- ---- in a transaction

module _ (d : TableRow) (old new : State) (first docs : List TableRow) (h : Inside old first docs) where
  put_ok : (count : ℕ) → AreBelow d.place docs → ExecutesInside 0 insert_text (given d) old new (Ok count) → Inside new first (docs ++ d ∷ []) × SparesOthers old.now new.now
  put_ok count below ran =
      let m = insert_is old.now.schema (seen h.table).place (seen h.table).tree (seen h.table).stands in
      let w = runs_as insert_text (given d) old new old.now.schema refl (Insert (seen h.table).place (Values insert_terms 5)) m.is m.plain count ran.0 in
      let made = inserts old.step_limit (mode_of old) (statement_of insert_text (understood old.now.schema insert_text)) d docs old.now w.tally new.now (seen h.table) below w.changed w.sound in
      let shown = ran.1 in
      (record { is_open = shown.is_open; mode = shown.mode; table = unseen made.0; first_table = subst (λ (x : Database). RowsIn x first) (sym shown.committed_is) h.first_table }, made.1)

  same_keeps : IsUnchanged old new → KeepsCommitted new first
  same_keeps u = record { table = subst (λ (x : Database). RowsIn x first) (sym u.0.committed_is) h.first_table }

  undone_keeps : IsRolledBack old new → IsTrue new.is_open → KeepsCommitted new first
  undone_keeps u still =
      let back = (u.undone still).1 in
      record { table = subst (λ (x : Database). RowsIn x first) (sym back) h.first_table }

  pub put_added : (r : Result ℕ Error) → AreBelow d.place docs → ExecutesInside 0 insert_text (given d) old new r → OnOk r (Inside new first (docs ++ d ∷ []))
  put_added (Ok count) below ran = (put_ok count below ran).0
  put_added (Err e) below ran = tt

  pub put_spared : (r : Result ℕ Error) → AreBelow d.place docs → ExecutesInside 0 insert_text (given d) old new r → OnOk r (SparesOthers old.now new.now)
  put_spared (Ok count) below ran = (put_ok count below ran).1
  put_spared (Err e) below ran = tt

  pub put_refused : (sql : List ℕ) (params : Row) (r : Result ℕ Error) → ExecutesInside 0 sql params old new r → IsTrue new.is_open → OnErr r (KeepsCommitted new first)
  put_refused sql params (Ok count) ran still = tt
  put_refused sql params (Err e) (inl ran) still = elim ran.1 [ inl same ↦ same_keeps same | inr undone ↦ undone_keeps undone still ]
  put_refused sql params (Err e) (inr barred) still = same_keeps barred.2

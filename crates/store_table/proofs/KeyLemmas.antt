-- What the UPDATE of a key does, in a transaction.
use Rattle.std.proofs.Common.{◌≡◌, inl, inr, ℕ, ℤ, List, [], ◌∷◌, map, None, Ok, Err, Result, refl, sym, ap, subst, ◌∙◌, Option, OnOk, IsTrue, take, length, suc, zero, get_or, ◌+◌, ◌<◌, arith}
use Rattle.std.specs.List.Sorted.{IsPermutation}
use Rattle.sqlite.specs.declared.types.Value.TheVariants.{Int, Blob}
use Rattle.sqlite.specs.Order.{Row}
use Rattle.sqlite_trees.specs.Tree.{put_row, without_rowid}
use Rattle.sqlite.specs.Command.TheVariants.{Update}
use Rattle.sqlite.specs.Edit.{Edit, edit_of, edited}
use Rattle.sqlite.specs.Does.{Tally, Does}
use Rattle.sqlite.specs.Effect.{Database, IsDatabase}
use Rattle.sqlite.specs.declared.run.Mode.{Mode}
use Rattle.sqlite.specs.declared.error.Error.{Error}
use Rattle.sqlite.specs.State.{State, mode_of, ExecutesInside}
use Rattle.sqlite.specs.Listing.{understood}
use Rattle.sqlite.proofs.Callers.{runs_as, statement_of}
use Rattle.store_table.specs.declared.row.NewKey.{NewKey}
use Rattle.store_table.specs.Open.{HasCommitted}
use Rattle.store_table.specs.Rows.{TableRow, columns_of, TableRows, RowsIn, Inside, with_key_at, with_keys_at}
use Rattle.store_table.proofs.StatementLemmas.{seen, unseen}
use Rattle.store_table.proofs.RowLemmas.{cast_null, cast_int}
use Rattle.store_table.proofs.PlaceLemmas.{none_changed}
use Rattle.store_table.specs.Beside.{SparesOthers}
use Rattle.store_table.proofs.PermLemmas.{back_perm}
use Rattle.store_table.proofs.ChangeLemmas.{changes_row}
use Rattle.store_table.proofs.TextLemmas.{rekey_text}
use Rattle.store_table.proofs.CommandLemmas.{program_at, idkey_project}
use Rattle.store_table.proofs.MeansLemmas.{rekey_is}

abbrev rekey_command : ℕ → ℕ → Rattle.sqlite.specs.Command.Command
rekey_command place tree = Update place (program_at tree idkey_project)

rekeys : (limit : Option ℕ) (mode : Mode) (text : List ℕ) (p : ℤ) (idkey : List ℕ) (docs : List TableRow) (db : Database) (tally : Tally) (after : Database) → (rows : TableRows db docs)
    → Does limit mode (Int p ∷ Blob idkey ∷ []) db text None (rekey_command rows.place rows.tree) (Ok (tally, after)) → IsDatabase after → TableRows after (with_key_at p idkey docs) × SparesOthers db after
rekeys limit mode text p idkey docs db tally after rows h sound =
    let f = λ (d : TableRow). record d { idkey = idkey } in
    changes_row f (λ d. refl) idkey_project limit mode text p (Blob idkey ∷ []) docs db tally after rows
    (λ found at. elim at [
      | inl none ↦ rw (none.1, none_changed p f docs none.0) rows.rows
      | inr one ↦ rw (one.3, cast_null, cast_int one.0.place)
          (subst (λ q. IsPermutation (map columns_of (with_key_at p idkey docs)) (put_row (columns_of (f one.0)) (without_rowid q (db.trees rows.tree)))) (sym one.2) (back_perm p f (λ d. refl) one.0 docs (db.trees rows.tree) rows.rising one.1 one.2 rows.rows))
    ]) h sound

module _ (p : ℤ) (idkey : List ℕ) (old new : State) (first docs : List TableRow) (h : Inside old first docs) where
  rekey_ok : (count : ℕ) → ExecutesInside 0 rekey_text (Int p ∷ Blob idkey ∷ []) old new (Ok count) → Inside new first (with_key_at p idkey docs) × SparesOthers old.now new.now
  rekey_ok count ran =
      let m = rekey_is old.now.schema (seen h.table).place (seen h.table).tree (seen h.table).stands in
      let w = runs_as rekey_text (Int p ∷ Blob idkey ∷ []) old new old.now.schema refl (rekey_command (seen h.table).place (seen h.table).tree) m.is m.plain count ran.0 in
      let made = rekeys old.step_limit (mode_of old) (statement_of rekey_text (understood old.now.schema rekey_text)) p idkey docs old.now w.tally new.now (seen h.table) w.changed w.sound in
      let shown = ran.1 in
      (record { is_open = shown.is_open; mode = shown.mode; table = unseen made.0; first_table = subst (λ (x : Database). RowsIn x first) (sym shown.committed_is) h.first_table }, made.1)

  pub rekey_done : (r : Result ℕ Error) → ExecutesInside 0 rekey_text (Int p ∷ Blob idkey ∷ []) old new r → OnOk r (Inside new first (with_key_at p idkey docs))
  rekey_done (Ok count) ran = (rekey_ok count ran).0
  rekey_done (Err e) ran = tt

  pub rekey_spared : (r : Result ℕ Error) → ExecutesInside 0 rekey_text (Int p ∷ Blob idkey ∷ []) old new r → OnOk r (SparesOthers old.now new.now)
  rekey_spared (Ok count) ran = (rekey_ok count ran).1
  rekey_spared (Err e) ran = tt

-- one more key
pub all_but_one : (keys : List NewKey) (i : ℕ) (k : NewKey) (docs : List TableRow) → i < length keys → k ≡ get_or keys i k
    → with_keys_at (take (i + 1) keys) docs ≡ with_key_at k.place k.idkey.items (with_keys_at (take i keys) docs)
all_but_one [] i k docs low is = absurd (omega (arith, low))
all_but_one (x ∷ keys) zero k docs low is = ap (λ (y : NewKey). with_key_at y.place y.idkey.items docs) (sym is)
all_but_one (x ∷ keys) (suc i) k docs low is =
    let e : suc i + 1 ≡ suc (i + 1) = omega arith in
    ap (λ n. with_keys_at (take n (x ∷ keys)) docs) e ∙ all_but_one keys i k (with_key_at x.place x.idkey.items docs) (omega (arith, low)) is

pub same_rekey : (p q : ℤ) (k l : List ℕ) (docs : List TableRow) → p ≡ q → k ≡ l → with_key_at p k docs ≡ with_key_at q l docs
same_rekey p q k l docs e f = rw (e, f) refl

-- ---- what a statement in a transaction leaves, whatever the schema

module _ (sql : List ℕ) (params : Row) (old new : State) where
  pub still_committed : (r : Result ℕ Error) → ExecutesInside 0 sql params old new r → HasCommitted old new
  still_committed (Ok count) ran still = (ran.1.was_open, ran.1.committed_is)
  still_committed (Err e) (inl ran) still = elim ran.1 [ inl same ↦ (same.0.was_open, same.0.committed_is) | inr undone ↦ (undone.was_open still, (undone.undone still).1) ]
  still_committed (Err e) (inr barred) still = (barred.2.0.was_open, barred.2.0.committed_is)

  pub still_inside : (r : Result ℕ Error) → ExecutesInside 0 sql params old new r → OnOk r (IsTrue new.in_transaction)
  still_inside (Ok count) ran = ran.1.mode
  still_inside (Err e) ran = tt

pub committed_then : (a b c : State) → HasCommitted a b → HasCommitted b c → HasCommitted a c
committed_then a b c h k still = let two = k still in let one = h two.0 in (one.0, two.1 ∙ one.1)

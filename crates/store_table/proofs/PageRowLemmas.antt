-- What the edits of the trees come to, by what each promises of any database.
use Rattle.std.proofs.Common.{◌≡◌, ℕ, ℤ, List, [], ◌∷◌, ◌++◌, find, None, Result, Ok, Err, OnOk, slice_index, ap, subst, ◌∙◌}
use Rattle.sqlite_pages.specs.PageMap.{PageMap}
use Rattle.sqlite_pages.specs.declared.error.Error.{Error}
use Rattle.sqlite_value.specs.declared.value.Value.TheVariants.{Int}
use Rattle.sqlite_value.specs.Order.{Row}
use Rattle.sqlite_value.specs.Keys.{plain}
use Rattle.sqlite_record.specs.Record.{decode}
use Rattle.sqlite_record.specs.Affinity.{widen}
use Rattle.sqlite_record.proofs.AffinityLemmas.{widen-zero}
use Rattle.sqlite_trees.specs.declared.store.Shape.TheVariants.{Table, Index}
use Rattle.sqlite_trees.specs.Tree.{put_row, without_rowid, insert_entry, remove_entry}
use Rattle.sqlite_btree.specs.Cut.{IsIn}
use Rattle.sqlite_store.specs.declared.catalog.Wanted.{Wanted}
use Rattle.sqlite_store.specs.Catalog.{reals_at}
use Rattle.sqlite_store.specs.Db.{table_row, shown, roots_of, IsDb, Names, Edits}
use Rattle.sqlite_store.proofs.ShownLemmas.{shown-zero}
use Rattle.sqlite.specs.Effect.{Database}
use Rattle.store_table.specs.Rows.{TableRow, columns_of, AreBelow, is_row_named, without_place, with_body_at}
use Rattle.store_table.specs.Documents.{columns, entry}
use Rattle.store_table.specs.Store.{HasStore}
use Rattle.store_table.proofs.StoreLemmas.{tree, index_tree, its, their, table_root, index_root}
use Rattle.store_table.proofs.PageChangeLemmas.{inserted, replaced, removed}

-- what each call promises, whatever the database
abbrev pub PutsRow : ℕ → PageMap → PageMap → ℕ → ℤ → List ℕ → Result (Unit {0}) Error → Type 0
PutsRow size before after root place bytes r =
    (schema : List Wanted) (t : ℕ) → IsDb size schema before → Names size schema before t Table root → shown Table (reals_at schema t) (table_row (place, bytes)) ≡ table_row (place, bytes)
    → OnOk r (Edits size schema before after t (put_row (table_row (place, bytes))))

abbrev pub TakesRow : ℕ → PageMap → PageMap → ℕ → ℤ → Result (Unit {0}) Error → Type 0
TakesRow size before after root place r =
    (schema : List Wanted) (t : ℕ) → IsDb size schema before → Names size schema before t Table root → OnOk r (Edits size schema before after t (without_rowid place))

abbrev pub AddsEntry : ℕ → PageMap → PageMap → ℕ → Row → Result (Unit {0}) Error → Type 0
AddsEntry size before after root e r =
    (schema : List Wanted) (t : ℕ) → IsDb size schema before → Names size schema before t (Index plain) root → widen (reals_at schema t) e ≡ e → OnOk r (Edits size schema before after t (insert_entry plain e))

abbrev pub TakesEntry : ℕ → PageMap → PageMap → ℕ → Row → Result (Unit {0}) Error → Type 0
TakesEntry size before after root e r =
    (schema : List Wanted) (t : ℕ) → IsDb size schema before → Names size schema before t (Index plain) root → OnOk r (Edits size schema before after t (remove_entry plain e))

module _ (first : Database) (size : ℕ) (before : PageMap) (version table index : ℕ) (docs : List TableRow) (s : HasStore first size before version table index docs) where
  abbrev t : ℕ
  t = tree first size before version table index docs s

  abbrev i : ℕ
  i = index_tree first size before version table index docs s

  its_names : Names size s.wanted before t Table table
  its_names = record { shape_is = (its first size before version table index docs s).names.shape_is; root_is = table_root first size before version table index docs s }

  their_names : Names size s.wanted before i (Index plain) index
  their_names = record { shape_is = (their first size before version table index docs s).names.shape_is; root_is = index_root first size before version table index docs s }

  -- after an edit of a tree
  moved_names : (mid : PageMap) → roots_of size s.wanted mid ≡ roots_of size s.wanted before → Names size s.wanted mid i (Index plain) index
  moved_names mid roots = record { shape_is = their_names.shape_is; root_is = ap (λ r. slice_index r i) roots ∙ their_names.root_is }

  shown_row : (row : Row) → shown Table (reals_at s.wanted t) row ≡ row
  shown_row row = ap (λ n. shown Table n row) (its first size before version table index docs s).reals ∙ shown-zero row

  shown_entry : (row : Row) → widen (reals_at s.wanted i) row ≡ row
  shown_entry row = ap (λ n. widen n row) (their first size before version table index docs s).reals ∙ widen-zero row

  stored : (d : TableRow) (bytes : List ℕ) → decode bytes ≡ columns d.coll d.idkey d.body → table_row (d.place, bytes) ≡ columns_of d
  stored d bytes reads = ap (λ r. Int d.place ∷ r) reads

  pub adds : (mid after : PageMap) (d : TableRow) (bytes : List ℕ) (r : Result (Unit {0}) Error) → decode bytes ≡ columns d.coll d.idkey d.body
      → PutsRow size before mid table d.place bytes (Ok tt) → AddsEntry size mid after index (entry d.coll d.idkey d.place) r
      → AreBelow d.place docs → find (is_row_named d.coll d.idkey) docs ≡ None → OnOk r (HasStore first size after version table index (docs ++ d ∷ []))
  adds mid after d bytes (Err e) reads put add below none = tt
  adds mid after d bytes (Ok u) reads put add below none =
      let one = subst (λ row. Edits size s.wanted before mid t (put_row row)) (stored d bytes reads) (put s.wanted t s.db its_names (shown_row (table_row (d.place, bytes)))) in
      let two = add s.wanted i one.db (moved_names mid one.roots) (shown_entry (entry d.coll d.idkey d.place)) in
      inserted first size before version table index docs s d mid after below none one two

  pub rewrites : (after : PageMap) (d : TableRow) (body bytes : List ℕ) (r : Result (Unit {0}) Error) → decode bytes ≡ columns d.coll d.idkey body
      → PutsRow size before after table d.place bytes r → IsIn d docs → OnOk r (HasStore first size after version table index (with_body_at d.place body docs))
  rewrites after d body bytes (Err e) reads put has = tt
  rewrites after d body bytes (Ok u) reads put has =
      replaced first size before version table index docs s d body after has
      (subst (λ row. Edits size s.wanted before after t (put_row row)) (stored (record d { body = body }) bytes reads) (put s.wanted t s.db its_names (shown_row (table_row (d.place, bytes)))))

  pub removes : (mid after : PageMap) (d : TableRow) (r : Result (Unit {0}) Error) → TakesRow size before mid table d.place (Ok tt) → TakesEntry size mid after index (entry d.coll d.idkey d.place) r → IsIn d docs
      → OnOk r (HasStore first size after version table index (without_place d.place docs))
  removes mid after d (Err e) out lost has = tt
  removes mid after d (Ok u) out lost has =
      let one = out s.wanted t s.db its_names in
      removed first size before version table index docs s d mid after has one (lost s.wanted i one.db (moved_names mid one.roots))

-- The rows of a table, one after the other.
use Rattle.std.specs.Prelude.{◌≡◌, ℕ, ℤ, Bool, true, false, List, [], ◌∷◌, ◌++◌, map, Option, None, Some}
use Rattle.sqlite_pages.specs.PageMap.{PageMap}
use Rattle.sqlite_pages.specs.declared.pages.Pages.{Ghosts}
use Rattle.sqlite_pages.specs.Calls.{IsClean}
use Rattle.sqlite_btree.specs.Chain.{Layout}
use Rattle.sqlite_btree.specs.Cut.{from_cut}
use Rattle.sqlite_btree.specs.Batch.{left_in, taken, IsBatchOf}
use Rattle.sqlite_btree.specs.Stored.{as_row, by_rowid}
use Rattle.store_table.specs.declared.pages.cells.RowRef.{RowRef}
use Rattle.store_table.specs.declared.pages.scan.Rows.{Rows}
use Rattle.store_table.specs.Documents.{AreDocuments, Doc, placed, read_row, of_collection}

-- the row at a place
abbrev pub doc_at : ℤ → RowRef → Doc
doc_at place row = record { place = place; coll = row.coll.now; idkey = row.idkey.now; body = row.body.now }

-- the rows from a rowid on
abbrev pub left_from : Option ℤ → List (ℤ × List ℕ) → List (ℤ × List ℕ)
left_from None rows = []
left_from (Some from) rows = from_cut (by_rowid from) rows

-- what the copied page has are the first ones of the rows that are left
pub record IsAmong (layout : Layout) (size : ℕ) (pages : PageMap) (rows : List (ℤ × List ℕ)) (it : Rows) : Type 0 where
  pub valid : IsBatchOf layout size it.batch
  pub rest : List (ℤ × List ℕ)
  pub parts : left_from it.from rows ≡ map as_row (left_in pages it.batch) ++ rest

-- the first row that is left was taken, or the page had none
abbrev pub Takes : Layout → ℕ → PageMap → List (ℤ × List ℕ) → Rows → Rows → Bool → Type 0
Takes layout size pages rows old new true = IsAmong layout size pages rows new × (left_from old.from rows ≡ as_row (taken new.batch) ∷ left_from new.from rows)
Takes layout size pages rows old new false = (left_in pages old.batch ≡ []) × (new ≡ old)

-- the first row that is left was taken, or none is left
abbrev pub Steps : Layout → ℕ → PageMap → List (ℤ × List ℕ) → Rows → Rows → Bool → Type 0
Steps layout size pages rows old new true = IsAmong layout size pages rows new × (left_from old.from rows ≡ as_row (taken new.batch) ∷ left_from new.from rows)
Steps layout size pages rows old new false = left_from old.from rows ≡ []

-- whatever the pages hold, some rows were taken; they are the first ones of the collection, if the pages have documents
abbrev pub HandsOn : {P : Type 0} (g : Ghosts P) (early late : P) (table index : ℕ) (coll : List ℕ) (took : List Doc → Type 0) → Type 0
HandsOn g early late table index coll took =
    (given : List Doc) × took given
    × (IsClean g late → (docs : List Doc) → AreDocuments (g.size early) (g.pages early) table index docs → (rest : List Doc) × (of_collection coll docs ≡ given ++ rest))

-- these rows were taken, and the others of the collection are among those that are left
pub record IsLeft (layout : Layout) (size : ℕ) (pages : PageMap) (rows : List (ℤ × List ℕ)) (coll : List ℕ) (docs given : List Doc) (it : Rows) : Type 0 where
  pub among : IsAmong layout size pages rows it
  pub back : List Doc
  pub all : of_collection coll docs ≡ given ++ of_collection coll back
  pub shows : map read_row (left_from it.from rows) ≡ map placed back

-- The table of documents and its index, as the pages of a file hold them.
use Rattle.std.specs.Prelude.{◌≡◌, ℕ, ℤ, Bool, true, ◌&&◌, List, [], ◌∷◌, map, filter, find, bytes_eq, Option}
use Rattle.sqlite_pages.specs.PageMap.{PageMap}
use Rattle.sqlite_value.specs.declared.value.Value.TheVariants.{Null, Int, Text, Blob}
use Rattle.sqlite_value.specs.Order.{Row}
use Rattle.sqlite_value.specs.Keys.{plain}
use Rattle.sqlite_record.specs.Record.{decode}
use Rattle.sqlite_btree.specs.Chain.{Layout}
use Rattle.sqlite_btree.specs.Cut.{IsIn}
use Rattle.sqlite_btree.specs.Stored.{IsTable, IsIndex, IsLaidIn}
use Rattle.sqlite_store.specs.Db.{record_order}

-- a row of the table
pub record Doc : Type 0 where
  pub place : ℤ
  pub coll : List ℕ
  pub idkey : List ℕ
  pub body : List ℕ

-- as the record of the table has it, under its place
abbrev pub columns : List ℕ → List ℕ → List ℕ → Row
columns coll idkey body = Null ∷ Text coll ∷ Blob idkey ∷ Blob body ∷ []

abbrev pub placed : Doc → ℤ × Row
placed d = (d.place, columns d.coll d.idkey d.body)

abbrev pub read_row : ℤ × List ℕ → ℤ × Row
read_row row = (row.0, decode row.1)

-- as the record of the index has it
abbrev pub entry : List ℕ → List ℕ → ℤ → Row
entry coll idkey place = Text coll ∷ Blob idkey ∷ Int place ∷ []

abbrev pub entry_of : Doc → Row
entry_of d = entry d.coll d.idkey d.place

abbrev pub is_named : List ℕ → List ℕ → Doc → Bool
is_named coll idkey d = bytes_eq d.coll coll && bytes_eq d.idkey idkey

abbrev pub named_in : List ℕ → List ℕ → List Doc → Option Doc
named_in coll idkey docs = find (is_named coll idkey) docs

-- the rows of a collection
abbrev pub is_of : List ℕ → Doc → Bool
is_of coll d = bytes_eq d.coll coll

abbrev pub of_collection : List ℕ → List Doc → List Doc
of_collection coll docs = filter (is_of coll) docs

-- Under these roots the pages are a table with these rows, and an index with an entry for each and for no other. No
-- two rows have the collection and the key in common.
pub record AreDocuments (size : ℕ) (pages : PageMap) (table index : ℕ) (docs : List Doc) : Type 0 where
  pub rows : List (ℤ × List ℕ)
  pub table_layout : Layout
  pub table_laid : IsLaidIn table_layout pages
  pub tabled : IsTable size table_layout table rows
  pub shows : map read_row rows ≡ map placed docs
  pub records : List (List ℕ)
  pub index_layout : Layout
  pub index_laid : IsLaidIn index_layout pages
  pub indexed : IsIndex (record_order plain) size index_layout index records
  pub listed : (d : Doc) → IsIn d docs → IsIn (entry_of d) (map decode records)
  pub leads : (e : Row) → IsIn e (map decode records) → (d : Doc) × IsIn d docs × (e ≡ entry_of d)
  pub apart : (coll idkey : List ℕ) (d e : Doc) → IsIn d docs → IsIn e docs → is_named coll idkey d ≡ true → is_named coll idkey e ≡ true → e ≡ d

-- What the schema of a file says of the table of documents and its index.
use Rattle.std.specs.Prelude.{◌≡◌, ℕ, ℤ, pos, Bool, true, List, [], ◌∷◌, Option, None, Some, codes}
use Rattle.std.specs.Borrow.{Bor}
use Rattle.sqlite_format.specs.Bytes.{u32_at}
use Rattle.sqlite_pages.specs.PageMap.{PageMap}
use Rattle.sqlite_pages.specs.declared.pages.Pages.{Ghosts}
use Rattle.sqlite_pages.specs.Calls.{IsClean}
use Rattle.sqlite_value.specs.declared.value.Value.{Value}
use Rattle.sqlite_value.specs.declared.value.Value.TheVariants.{Null, Int, Text}
use Rattle.sqlite_value.specs.Order.{Row}
use Rattle.sqlite_record.specs.Record.{decode}
use Rattle.sqlite_btree.specs.Chain.{Layout}
use Rattle.sqlite_btree.specs.Cut.{from_cut}
use Rattle.sqlite_btree.specs.Stored.{IsTable, IsLaidIn, by_rowid}
use Rattle.store_table.specs.Scans.{IsFirst}

-- the text by which the store makes its table
abbrev pub table_text : List ℕ
table_text = codes "CREATE TABLE documents (place INTEGER PRIMARY KEY, coll TEXT NOT NULL, idkey BLOB NOT NULL, body BLOB NOT NULL, UNIQUE (coll, idkey)) STRICT"

abbrev pub text_or_null : Option (Bor (List ℕ)) → Value
text_or_null None = Null
text_or_null (Some text) = Text text.now

-- a record of sqlite_schema
abbrev pub schema_row : List ℕ → List ℕ → List ℕ → ℤ → Value → Row
schema_row kind name table root text = Text kind ∷ Text name ∷ Text table ∷ Int root ∷ text ∷ []

-- of the table of documents, and of its index
abbrev pub table_entry : ℕ → Row
table_entry root = schema_row (codes "table") (codes "documents") (codes "documents") (pos root) (Text table_text)

abbrev pub index_entry : ℕ → Row
index_entry root = schema_row (codes "index") (codes "sqlite_autoindex_documents_1") (codes "documents") (pos root) Null

-- the rows are two, which name these roots
pub record AreTwo (rows : List (ℤ × List ℕ)) (table index : ℕ) : Type 0 where
  pub first : ℤ × List ℕ
  pub second : ℤ × List ℕ
  pub all : rows ≡ first ∷ second ∷ []
  pub names_table : decode first.1 ≡ table_entry table
  pub names_index : decode second.1 ≡ index_entry index

-- if the pages have a schema, it is those two rows
abbrev pub ListsTwo : ℕ → PageMap → ℕ → ℕ → Type 0
ListsTwo size pages table index = (layout : Layout) (rows : List (ℤ × List ℕ)) → IsLaidIn layout pages → IsTable size layout 1 rows → AreTwo rows table index

-- the first row of a table from a rowid on
abbrev pub FindsFirstRow : {P : Type 0} (g : Ghosts P) (early late : P) (rowid : ℤ) (root : ℕ) (found : ℤ × List ℕ) (some : Bool) → Type 0
FindsFirstRow g early late rowid root found some =
    IsClean g late → (layout : Layout) (rows : List (ℤ × List ℕ)) → IsLaidIn layout (g.pages early) → IsTable (g.size early) layout root rows
    → IsFirst (from_cut (by_rowid rowid) rows) found some

-- and that it says this
abbrev pub FindsEntry : {P : Type 0} (g : Ghosts P) (early late : P) (rowid : ℤ) (found : ℤ × List ℕ) (entry : Row) → Type 0
FindsEntry g early late rowid found entry = FindsFirstRow g early late rowid 1 found true × (decode found.1 ≡ entry)

-- the first page reserves no bytes at the end of pages
abbrev pub SaysPlain : PageMap → Type 0
SaysPlain pages = (first : List ℕ) → pages 1 ≡ Some first → u32_at first 20 ≡ 0x0040_2020

-- That a file which holds a database with the table of documents has its rows at the roots that its schema names.
use Rattle.std.specs.Prelude.{◌≡◌, ◌≢◌, ℕ, ◌%◌, List, map, filter, find, bytes_eq, option_map}
use Rattle.std.specs.List.{list_any}
use Rattle.sqlite_pages.specs.PageMap.{PageMap}
use Rattle.sqlite_trees.specs.Tree.{Trees}
use Rattle.sqlite_wal.specs.Recovery.{Image, Recovers}
use Rattle.sqlite.specs.Effect.{Database}
use Rattle.sqlite.specs.Opening.{HoldsIn}
use Rattle.sqlite.specs.Files.{HoldsDatabase}
use Rattle.store_table.specs.Rows.{TableRow, HasRows, is_row_named, is_in}
use Rattle.store_table.specs.Documents.{Doc, AreDocuments, named_in, of_collection}
use Rattle.store_table.specs.Frames.{NamesSize}
use Rattle.store_table.specs.PageNames.{AreNames}
use Rattle.store_table.specs.Roots.{ListsTwo, SaysPlain}

-- a row of the store, as the pages show it
abbrev pub as_doc : TableRow → Doc
as_doc d = record { place = d.place; coll = d.coll; idkey = d.idkey; body = d.body }

-- the rows of the store are those of the pages, if the database has pages of this size
abbrev pub Bridges : Type 0
Bridges =
    (size : ℕ) (image : Image) (trees : Trees) (first : Database) (docs : List TableRow) (pages : PageMap) (table index : ℕ)
    → HoldsIn size image trees → HasRows first trees docs → size % 16 ≢ 8 → Recovers size image pages → ListsTwo size pages table index
    → AreDocuments size pages table index (map as_doc docs)

-- and so they are if the files name the size, and the first page says that pages end in no sum
abbrev pub Shows : Type 0
Shows =
    (image : Image) (trees : Trees) (first : Database) (docs : List TableRow) (size : ℕ) (pages : PageMap) (table index : ℕ)
    → HoldsDatabase image trees → HasRows first trees docs → NamesSize image size → Recovers size image pages → SaysPlain pages → ListsTwo size pages table index
    → AreDocuments size pages table index (map as_doc docs)

-- The row with a collection and a key, among rows of pages and of the store.
abbrev pub FindsAlike : Type 0
FindsAlike =
    (coll idkey : List ℕ) (docs : List TableRow)
    → option_map (λ (d : Doc). d.body) (named_in coll idkey (map as_doc docs)) ≡ option_map (λ (d : TableRow). d.body) (find (is_row_named coll idkey) docs)

-- the rows of a collection, among rows of pages and of the store
abbrev pub VisitsAlike : Type 0
VisitsAlike = (coll : List ℕ) (docs : List TableRow) → of_collection coll (map as_doc docs) ≡ map as_doc (filter (is_in coll) docs)

-- the names of the collections, of pages and of the store
abbrev pub NamesAlike : Type 0
NamesAlike = (names : List (List ℕ)) (docs : List TableRow) → AreNames names (map as_doc docs) → (c : List ℕ) → list_any (bytes_eq c) names ≡ list_any (is_in c) docs

-- under these roots are the rows of the store, whatever database the files hold
abbrev pub ShowsRows : Image → ℕ → PageMap → ℕ → ℕ → Type 0
ShowsRows image size pages table index =
    (trees : Trees) (first : Database) (docs : List TableRow) → HoldsDatabase image trees → HasRows first trees docs → AreDocuments size pages table index (map as_doc docs)

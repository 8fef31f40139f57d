-- What a store that only reads says of the rows that its pages hold.
use Rattle.std.specs.Prelude.{◌≡◌, ℕ, List, map, Option, Some, None, Result, Ok, Err, Vec}
use Rattle.std.specs.declared.alloc.Global.{Global}
use Rattle.sqlite_pages.specs.declared.pages.Pages.{Ghosts}
use Rattle.sqlite_pages.specs.Calls.{Continues, IsClean}
use Rattle.bson_base.specs.Value.{Value}
use Rattle.sqlite_trees.specs.Tree.{Trees}
use Rattle.sqlite_wal.specs.Recovery.{Image}
use Rattle.sqlite.specs.Effect.{Database}
use Rattle.sqlite.specs.Files.{HoldsDatabase}
use Rattle.store_table.specs.Rows.{HasRows, TableRow}
use Rattle.store_table.specs.declared.row.Found.{Found}
use Rattle.store_table.specs.Documents.{AreDocuments}
use Rattle.store_table.specs.Bridge.{as_doc}
use Rattle.store_model.specs.declared.error.StoreError.{StoreError}
use Rattle.bson_store.specs.Calls.{Looks}
use Rattle.store_asked.specs.declared.store.ReadOnlyStore.{ReadOnlyStore}

-- the pages under a store
abbrev pub pages_under : {P : Type 0} → ReadOnlyStore P → P
pages_under s = s.pages

-- under the roots of the store its pages are the table of these rows, and its index
abbrev pub Shows : {P : Type 0} → Ghosts P → ReadOnlyStore P → List TableRow → Type 0
Shows g s docs = AreDocuments (g.size s.pages) (g.pages s.pages) s.roots.table s.roots.index (map as_doc docs)

-- the store has the pages and the roots that it had
abbrev pub Stays : {P : Type 0} → Ghosts P → ReadOnlyStore P → ReadOnlyStore P → Type 0
Stays g old new = Continues g old.pages new.pages × (g.pages new.pages ≡ g.pages old.pages) × (new.roots ≡ old.roots)

-- whatever rows the pages show, R relates them to themselves, if no wrong answer of the disk was taken as true
abbrev pub Reads : {P : Type 0} → Ghosts P → ReadOnlyStore P → ReadOnlyStore P → (List TableRow → List TableRow → Type 0) → Type 0
Reads g old new R = IsClean g new.pages → (docs : List TableRow) → Shows g old docs → R docs docs

-- R relates to themselves the rows of a database that two files hold, whichever it is, and whatever rows it has
abbrev pub OfFiles : Image → (List TableRow → List TableRow → Type 0) → Type 0
OfFiles image R = (trees : Trees) (first : Database) (docs : List TableRow) → HoldsDatabase image trees → HasRows first trees docs → R docs docs

-- the body of the document with an id is found, as the store finds the document's row; or there is none
abbrev pub FindsBody : List ℕ → Value → Result (Option (Vec ℕ Global)) StoreError → List TableRow → List TableRow → Type 0
FindsBody n id (Ok None) docs after = Looks n id (Ok None) docs after
FindsBody n id (Ok (Some body)) docs after = (f : Found) × (f.body ≡ body) × Looks n id (Ok (Some f)) docs after
FindsBody n id (Err e) docs after = Looks n id (Err e) docs after

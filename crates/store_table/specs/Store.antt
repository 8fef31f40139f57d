-- The table of documents in the pages that trees may own.
use Rattle.std.specs.Prelude.{◌≡◌, ℕ, ℤ, List, [], ◌∷◌}
use Rattle.sqlite_disk.specs.declared.Disk.{Ghosts}
use Rattle.sqlite_pages.specs.PageMap.{PageMap}
use Rattle.sqlite_pool.specs.declared.pool.Pool.{Pool}
use Rattle.sqlite_pool.specs.Pool.{state, IsClean}
use Rattle.sqlite_pool.specs.Stored.{Recovers}
use Rattle.store_table.specs.Frames.{NamesSize}
use Rattle.sqlite_wal.specs.PageSize.{IsPageSize}
use Rattle.sqlite_wal.specs.Recovery.{Image}
use Rattle.sqlite_value.specs.declared.value.Value.TheVariants.{Int}
use Rattle.sqlite_value.specs.Order.{Row}
use Rattle.sqlite_trees.specs.declared.store.Shape.TheVariants.{Table}
use Rattle.sqlite_trees.specs.Tree.{Trees}
use Rattle.sqlite_trees.specs.Objects.{with_version}
use Rattle.sqlite_schema.specs.declared.schema.Schema.{Schema}
use Rattle.sqlite_catalog.specs.Listing.{IsSound}
use Rattle.sqlite_store.specs.declared.catalog.Wanted.{Wanted}
use Rattle.sqlite_store.specs.Db.{rows_at, roots_of, IsDb}
use Rattle.sqlite_store.specs.Exact.{IsExact}
use Rattle.sqlite_store.specs.Listing.{all_trees}
use Rattle.sqlite.specs.Effect.{Database}
use Rattle.sqlite.specs.Opening.{HoldsIn}
use Rattle.store_table.specs.Rows.{TableRow, HasRows}
use Rattle.store_table.specs.Roots.{table_entry, index_entry}

-- what the pages read as, with this user version
abbrev pub trees_of : ℕ → List Wanted → PageMap → ℕ → Trees
trees_of size wanted pages version = with_version (all_trees size wanted pages) version

-- the rows of sqlite_schema are those of the table and of its index, with these roots
abbrev pub ListsOwn : List Row → ℕ → ℕ → Type 0
ListsOwn rows table index = (p : ℤ) × (q : ℤ) × (rows ≡ (Int p ∷ table_entry table) ∷ (Int q ∷ index_entry index) ∷ [])

-- the pages are a sound database of the table alone, with these rows
pub record HasStore (first : Database) (size : ℕ) (pages : PageMap) (version table index : ℕ) (docs : List TableRow) : Type 0 where
  pub sized : IsPageSize size
  pub wanted : List Wanted
  pub schema : Schema
  pub db : IsDb size wanted pages
  pub exact : IsExact wanted (roots_of size wanted pages) (rows_at size pages Table 1)
  pub own : ListsOwn (rows_at size pages Table 1) table index
  pub sound : IsSound schema (trees_of size wanted pages version)
  pub shows : HasRows first (trees_of size wanted pages version) docs

-- the files hold a database of pages of this size, which has the table with these rows
pub record HoldRows (first : Database) (size : ℕ) (image : Image) (docs : List TableRow) : Type 0 where
  pub sized : IsPageSize size
  pub trees : Trees
  pub held : HoldsIn size image trees
  pub rows : HasRows first trees docs

-- The pool is open on the pages that the files stand for, whose size is the one that they name.
pub record IsOpenOn {D : Type 0} {g : Ghosts D} (image : Image) (it : Pool D g) : Type 0 where
  pub clean : IsClean it
  pub sized : IsPageSize (state it).page_size
  pub named : NamesSize image (state it).page_size
  pub found : Recovers (state it).page_size image (state it).committed

-- a row at a place
abbrev pub row_at : ℤ → List ℕ → List ℕ → List ℕ → TableRow
row_at place coll idkey body = record { place = place; coll = coll; idkey = idkey; body = body }

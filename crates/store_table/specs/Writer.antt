-- What a writer shows of the files that it has.
use Rattle.std.specs.Prelude.{◌⊎◌, ℕ, List, IsTrue}
use Rattle.sqlite_disk.specs.declared.Disk.{Ghosts}
use Rattle.sqlite_wal.specs.Recovery.{Image}
use Rattle.sqlite_wal.specs.State.{State}
use Rattle.sqlite_pool.specs.File.{version_in}
use Rattle.sqlite_pool.specs.Pool as pool
use Rattle.sqlite.specs.Effect.{Database}
use Rattle.store_table.specs.Rows.{TableRow}
use Rattle.store_table.specs.Store.{HasStore, HoldRows}
use Rattle.store_table.specs.declared.pages.writer.Writer.{Writer}

module _ {D : Type 0} {g : Ghosts D} where
  abbrev pub state_of : Writer D g → State
  state_of it = pool.state it.pool

  abbrev pub size_of : Writer D g → ℕ
  size_of it = (pool.state it.pool).page_size

  -- while it is open, its pages have the table, with these rows
  abbrev pub Serves : Database → Writer D g → List TableRow → Type 0
  Serves first it docs =
      IsTrue (state_of it).is_open → HasStore first (size_of it) (pool.usable it.pool) (version_in (state_of it).committed) it.roots.table it.roots.index docs

  -- whatever a crash leaves has the table, with these rows
  abbrev pub Leaves : Database → Writer D g → List TableRow → Type 0
  Leaves first it docs = (left : Image) → (state_of it).may_leave left → ∥ HoldRows first (size_of it) left docs ∥₁

  -- with these rows or with others
  abbrev pub LeavesEither : Database → Writer D g → List TableRow → List TableRow → Type 0
  LeavesEither first it docs made =
      (left : Image) → (state_of it).may_leave left → ∥ HoldRows first (size_of it) left docs ∥₁ ⊎ ∥ HoldRows first (size_of it) left made ∥₁

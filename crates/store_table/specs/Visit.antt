-- Values that are taken one after the other.
use Rattle.std.specs.Prelude.{◌≡◌, ◌⊎◌, ℕ, ℤ, Bool, true, false, List, [], codes, Result, Ok, Err, IsTrue, OnOk, OnErr}
use Rattle.sqlite_value.specs.Order.{Row, column}
use Rattle.sqlite_ast.specs.declared.Statement.{Statement}
use Rattle.sqlite_ast.specs.declared.Statement.TheVariants as written
use Rattle.sqlite_syntax.specs.declared.statement.Parsed.{Parsed}
use Rattle.sqlite_resolve.specs.declared.error.CompileError.{CompileError}
use Rattle.sqlite_resolve.specs.Compile.{first}
use Rattle.sqlite.specs.State.{State, Shown, Begins, IsUnchanged}
use Rattle.store_table.specs.Rows.{TableRow, HoldsRows}
use Rattle.store_table.specs.Cells.{int_in, bytes_in}
use Rattle.store_table.specs.Moves.{Stands}
use Rattle.store_table.specs.Beside.{KeepsOthers}

abbrev pub asks : Statement → Bool
asks (written.Select s) = true
asks _ = false

-- a SELECT with no time in it
abbrev pub AsksForRows : Result Parsed CompileError → Type 0
AsksForRows (Ok p) = (asks p.statement ≡ true) × (p.formats ≡ [])
AsksForRows (Err e) = ⊥

abbrev pub IsSelect : List ℕ → Type 0
IsSelect text = AsksForRows (first text)

-- the first value of a row
abbrev pub first_value : Row → List ℕ
first_value r = bytes_in (column r 0)

-- the visitor has taken the whole result, or the first rows of one
abbrev pub TookRows : {V : Type 0} → (V → List Row → Type 0) → V → List ℕ → Row → State → State → Type 0
TookRows took v sql params old new = (rows : List Row) × Shown sql params old new rows × took v rows

abbrev pub TookSome : {V : Type 0} → (V → List Row → Type 0) → V → List ℕ → Row → State → Type 0
TookSome took v sql params old = (rows : List Row) × ((rows ≡ []) ⊎ (IsTrue old.is_open × Begins sql params old rows)) × took v rows

-- a read that succeeds leaves everything; one that is refused leaves the rows and the other tables, or the connection
-- is shut
pub record ReadsRows {A E : Type 0} (old new : State) (result : Result A E) : Type 0 where
  pub unchanged : OnOk result (IsUnchanged old new)
  pub refused : OnErr result (IsTrue new.is_open → IsTrue old.is_open × ((docs : List TableRow) → HoldsRows old docs → HoldsRows new docs))
  pub others : OnErr result ((docs : List TableRow) → Stands old docs → KeepsOthers old new)

-- The + keeps the engine from the index on (coll, idkey), by which it would have to sort the whole result before the
-- first row.
abbrev pub scan_text : List ℕ
scan_text = codes "SELECT body FROM documents WHERE +coll = ?1 COLLATE BINARY ORDER BY place"

-- ---- with their places

-- the place and the body of a row
abbrev pub placed : Row → ℤ × List ℕ
placed r = (int_in (column r 0), bytes_in (column r 1))

abbrev pub placed_text : List ℕ
placed_text = codes "SELECT place, body FROM documents WHERE +coll = ?1 COLLATE BINARY ORDER BY place"

-- What a statement that writes does to the rows.
use Rattle.std.specs.Prelude.{List, Result, IsTrue, OnOk, OnErr}
use Rattle.sqlite.specs.State.{State}
use Rattle.store_table.specs.Rows.{TableRow, HoldsRows}
use Rattle.store_table.specs.Moves.{Stands}
use Rattle.store_table.specs.Beside.{KeepsOthers}

-- the rows are changed this way; a refused statement leaves the rows, or the connection is shut; the other tables are
-- as they were
pub record WritesRows {A E : Type 0} (old new : State) (change : List TableRow → List TableRow) (result : Result A E) : Type 0 where
  pub done : OnOk result (IsTrue old.is_open × ((docs : List TableRow) → HoldsRows old docs → HoldsRows new (change docs)))
  pub refused : OnErr result (IsTrue new.is_open → IsTrue old.is_open × ((docs : List TableRow) → HoldsRows old docs → HoldsRows new docs))
  pub others : (docs : List TableRow) → Stands old docs → KeepsOthers old new

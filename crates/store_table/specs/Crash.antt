-- What a crash may leave of the table.
use Rattle.std.specs.Prelude.{List}
use Rattle.sqlite_trees.specs.Tree.{Trees}
use Rattle.sqlite.specs.State.{State, Survives}
use Rattle.store_table.specs.Rows.{TableRow, HasRows, HoldsRows}

-- nothing is added to what a crash could leave before
abbrev pub AddsNothing : State → State → Type 0
AddsNothing old new = Survives old new (λ _. ⊥)

-- the rows of the table changed this way, and the schema and the other tables as they were
abbrev pub MayChange : (List TableRow → List TableRow) → State → Trees → Type 0
MayChange change s trees = (docs : List TableRow) → HoldsRows s docs → HasRows s.now trees (change docs)

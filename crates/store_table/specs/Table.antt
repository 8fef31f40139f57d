-- The state of a table's connection.
use Rattle.sqlite_trees.specs.declared.store.Store.{Ghosts}
use Rattle.sqlite.specs.State.{State}
use Rattle.sqlite.specs.Held.{Held, state}
use Rattle.store_table.specs.declared.table.Table.{Table}

abbrev pub connection_of : {S : Type 0} → Table S → Held S
connection_of t = t.conn

abbrev pub table_state : {S : Type 0} → Ghosts S → Table S → State
table_state g t = state g t.conn

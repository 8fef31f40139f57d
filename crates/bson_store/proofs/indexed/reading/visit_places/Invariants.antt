use Rattle.std.proofs.Common.{List, IsTrue, [], take}
use Rattle.sqlite.specs.State.{HasCleanDisk, Survives}
use Rattle.store_table.specs.Moves.{Moves, Stands}
use Rattle.store_table.specs.Rows.{TableRow}
use Rattle.store_table.specs.Table.{table_state}
use Rattle.bson_store.proofs.PlaceVisitLemmas.{ComesAt}
use Rattle.bson_store.proofs.indexed.reading.visit_places.Given as goal

abbrev pub invariant-loop-i : goal.invariant-loop-i
invariant-loop-i g l = record {
  moves : Moves (table_state g.S.Store l.fn.table) (table_state g.S.Store l.table) (ComesAt (g.V.Visit.took l.fn.visitor) l.visitor l.coll (take l.i l.places) (g.V.Visit.took l.fn.visitor l.fn.visitor []));
  crash : Survives (table_state g.S.Store l.fn.table) (table_state g.S.Store l.table) (λ _. ⊥);
  opened : HasCleanDisk (table_state g.S.Store l.table) → (docs : List TableRow) → Stands (table_state g.S.Store l.fn.table) docs → IsTrue (table_state g.S.Store l.fn.table).is_open × IsTrue (table_state g.S.Store l.table).is_open;
}

use Rattle.std.proofs.Common.{List, IsTrue}
use Rattle.sqlite.specs.State.{HasCleanDisk, Survives}
use Rattle.store_table.specs.Moves.{Moves, Stands}
use Rattle.store_table.specs.Rows.{TableRow}
use Rattle.bson_store.specs.Calls.{store_state}
use Rattle.bson_store.proofs.KeyLemmas.{ComesTo}
use Rattle.bson_store.proofs.store.Store.first_looked_up.Given as goal

abbrev pub invariant-loop-at : goal.invariant-loop-at
invariant-loop-at g l = record {
  moves : Moves (store_state g.S.Store l.initial.self) (store_state g.S.Store l.self) (ComesTo l.collection l.rows l.met l.at);
  crash : Survives (store_state g.S.Store l.initial.self) (store_state g.S.Store l.self) (λ _. ⊥);
  opened : HasCleanDisk (store_state g.S.Store l.self) → (docs : List TableRow) → Stands (store_state g.S.Store l.initial.self) docs → IsTrue (store_state g.S.Store l.self).is_open → IsTrue (store_state g.S.Store l.initial.self).is_open;
}

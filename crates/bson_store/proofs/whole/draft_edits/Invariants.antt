use Rattle.std.proofs.Common.{Ok, take}
use Rattle.sqlite.specs.State.{Survives}
use Rattle.store_table.specs.Moves.{Moves}
use Rattle.bson_store.specs.Calls.{KeepsIndexes, store_state}
use Rattle.bson_store.specs.Whole.{EditsAll}
use Rattle.bson_store.proofs.whole.draft_edits.Given as goal

abbrev pub invariant-loop-at : goal.invariant-loop-at
invariant-loop-at g l = record {
  moves : Moves (store_state g.S.Store l.fn.store) (store_state g.S.Store l.store) (EditsAll (take l.at l.edits) (Ok tt) l.fn.drafted.draft l.drafted.draft);
  indexes : KeepsIndexes l.fn.store l.store;
  survives : Survives (store_state g.S.Store l.fn.store) (store_state g.S.Store l.store) (λ _. ⊥);
}

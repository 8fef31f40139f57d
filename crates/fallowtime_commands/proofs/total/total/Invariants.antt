use Rattle.std.proofs.Common.{Ok, map}
use Rattle.std.specs.Prelude.{string_bytes}
use Rattle.sqlite.specs.State.{Survives}
use Rattle.store_table.specs.Moves.{Moves, WasOpen}
use Rattle.store_model.specs.declared.error.StoreError.{StoreError}
use Rattle.store_question.specs.Asked.{all_of, no_asked}
use Rattle.store_question.specs.Reads.{Reads, form_of}
use Rattle.bson_store.specs.Calls.{store_state}
use Rattle.fallowtime_commands.proofs.TotalLemmas.{Sums}
use Rattle.fallowtime_commands.proofs.total.total.Given as goal

abbrev pub invariant-loop-name : goal.invariant-loop-name
invariant-loop-name g l = record {
  moves : Moves (store_state g.S.Store l.fn.store) (store_state g.S.Store l.store) (Sums (map string_bytes l.name-items) l.name-index l.total);
  asks : Reads (form_of l.everything) (all_of no_asked);
  crash : Survives (store_state g.S.Store l.fn.store) (store_state g.S.Store l.store) (λ _. ⊥);
  opened : WasOpen {E = StoreError} (store_state g.S.Store l.fn.store) (store_state g.S.Store l.store) (Ok l.total);
}

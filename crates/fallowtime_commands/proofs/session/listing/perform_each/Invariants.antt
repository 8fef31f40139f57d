use Rattle.std.proofs.Common.{take}
use Rattle.sqlite.specs.State.{Survives}
use Rattle.store_table.specs.Moves.{Moves}
use Rattle.bson_store.specs.Calls.{KeepsIndexes, store_state}
use Rattle.fallowtime_commands.proofs.ListedLemmas.{SoFar}
use Rattle.fallowtime_commands.specs.Listing.{AreAnswersTo}
use Rattle.fallowtime_commands.proofs.session.listing.perform_each.Given as goal

abbrev pub invariant-loop-at : goal.invariant-loop-at
invariant-loop-at g l = record {
  moves : Moves (store_state g.S.Store l.fn.store) (store_state g.S.Store l.store) (SoFar l.fn.edits.draft (take l.at l.questions) l.answers.items l.edits.draft);
  indexes : KeepsIndexes l.fn.store l.store;
  survives : Survives (store_state g.S.Store l.fn.store) (store_state g.S.Store l.store) (λ _. ⊥);
  shape : AreAnswersTo (take l.at l.questions) l.answers.items;
}

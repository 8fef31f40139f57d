use Rattle.std.proofs.Common.{true}
use Rattle.bson_store.specs.Calls.{store_state}
use Rattle.fallowtime_commands.specs.Asking.{AreChosen}
use Rattle.fallowtime_commands.specs.Transferring.{HasBodies}
use Rattle.fallowtime_commands.proofs.TransferLemmas.{learns}
use Rattle.fallowtime_commands.proofs.transferring.bodies_in.Goals as goal

pub returns-clause-moves : goal.returns-clause-moves
returns-clause-moves g c =
    learns (AreChosen true) HasBodies c.args.name.now _ c.find_meant.result (store_state g.S.Store c.args.store.now) (store_state g.S.Store c.find_meant.new.store) c.ask_for_all-everything.ensures (λ ds bodies kept are. (kept, are)) c.find_meant.ensures.moves

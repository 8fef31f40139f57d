use Rattle.bson_store.specs.Calls.{store_state}
use Rattle.fallowtime_commands.specs.Asking.{IsNumberOf}
use Rattle.fallowtime_commands.specs.Transferring.{IsNumber}
use Rattle.fallowtime_commands.proofs.TransferLemmas.{learns}
use Rattle.fallowtime_commands.proofs.transferring.number_in.Goals as goal

pub returns-clause-moves : goal.returns-clause-moves
returns-clause-moves g c =
    learns IsNumberOf IsNumber c.args.name.now _ c.count.result (store_state g.S.Store c.args.store.now) (store_state g.S.Store c.count.new.store) c.ask_for_all-everything.ensures (λ ds k kept is. is) c.count.ensures.moves

use Rattle.std.proofs.Common.{ap, true}
use Rattle.bson_store.proofs.CrashLemmas.{survives_itself}
use Rattle.bson_store.specs.Calls.{store_state}
use Rattle.bson_store.specs.Export.{bytes_of_each}
use Rattle.fallowtime_commands.proofs.TransferLemmas.{displaces_none, displaces_some}
use Rattle.fallowtime_requests.specs.declared.request.Transfer.TheVariants as transfer
use Rattle.fallowtime_commands.proofs.transferring.displaced_bodies.Goals as goal

pub returns-in-Rename-clause-moves : goal.returns-in-Rename-clause-moves
returns-in-Rename-clause-moves g c = rw c.in-Rename.is (displaces_some c.in-Rename.new true (store_state g.S.Store c.args.store.now) (store_state g.S.Store c.bodies_in.new.store) c.bodies_in.result c.bodies_in.ensures.moves)

pub returns-in-Drop-clause-moves : goal.returns-in-Drop-clause-moves
returns-in-Drop-clause-moves g c = rw c.in-Drop.is (displaces_none transfer.Drop (store_state g.S.Store c.args.store.now) c.new.result (λ a. (tt, ap bytes_of_each c.new.ensures.items)))

pub returns-in-Drop-clause-crash : goal.returns-in-Drop-clause-crash
returns-in-Drop-clause-crash g c = survives_itself (store_state g.S.Store c.args.store.now)

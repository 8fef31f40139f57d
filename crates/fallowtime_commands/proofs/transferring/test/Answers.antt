use Rattle.std.proofs.Common.{Ok, refl}
use Rattle.bson_store.proofs.CrashLemmas.{survives_itself}
use Rattle.bson_store.proofs.MoveLemmas.{rests}
use Rattle.bson_store.specs.Calls.{store_state}
use Rattle.fallowtime_commands.specs.Transferring.{Readies}
use Rattle.fallowtime_requests.specs.declared.request.Transfer.TheVariants as transfer
use Rattle.fallowtime_commands.proofs.transferring.test.Goals as goal

pub returns-in-Drop-clause-moves : goal.returns-in-Drop-clause-moves
returns-in-Drop-clause-moves g c = rw c.in-Drop.is (rests (store_state g.S.Store c.args.store.now) (Readies transfer.Drop c.args.name.now (Ok tt)) (λ docs a shown. (refl, tt)))

pub returns-in-Drop-clause-crash : goal.returns-in-Drop-clause-crash
returns-in-Drop-clause-crash g c = survives_itself (store_state g.S.Store c.args.store.now)

pub returns-in-Rename-clause-moves : goal.returns-in-Rename-clause-moves
returns-in-Rename-clause-moves g c = rw c.in-Rename.is c.may_go.ensures.moves

pub returns-in-Copy-clause-moves : goal.returns-in-Copy-clause-moves
returns-in-Copy-clause-moves g c = rw c.in-Copy.is c.may_go-in-Copy.ensures.moves

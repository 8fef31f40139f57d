use Rattle.bson_store.specs.Calls.{store_state}
use Rattle.fallowtime_commands.proofs.IndexLemmas.{indexed}
use Rattle.fallowtime_commands.proofs.performing.perform.Goals as goal

pub returns-in-Insert-clause-moves : goal.returns-in-Insert-clause-moves
returns-in-Insert-clause-moves g c = rw (c.in-Insert.is, c.inserted.ensures.reply) c.insert.ensures.moves

pub returns-in-Insert-clause-crash : goal.returns-in-Insert-clause-crash
returns-in-Insert-clause-crash g c = rw (c.in-Insert.is, c.inserted.ensures.reply) c.insert.ensures.crash

pub returns-in-Put-clause-moves : goal.returns-in-Put-clause-moves
returns-in-Put-clause-moves g c = rw (c.in-Put.is, c.nothing.ensures.reply) c.put.ensures.moves

pub returns-in-Put-clause-crash : goal.returns-in-Put-clause-crash
returns-in-Put-clause-crash g c = rw (c.in-Put.is, c.nothing.ensures.reply) c.put.ensures.crash

pub returns-in-Replace-clause-moves : goal.returns-in-Replace-clause-moves
returns-in-Replace-clause-moves g c = rw (c.in-Replace.is, c.nothing-in-Replace.ensures.reply) c.replace.ensures.moves

pub returns-in-Replace-clause-crash : goal.returns-in-Replace-clause-crash
returns-in-Replace-clause-crash g c = rw (c.in-Replace.is, c.nothing-in-Replace.ensures.reply) c.replace.ensures.crash

pub returns-in-Set-clause-moves : goal.returns-in-Set-clause-moves
returns-in-Set-clause-moves g c = rw (c.in-Set.is, c.nothing-in-Set.ensures.reply) (rw c.replace-value.ensures.value at c.set.ensures.moves)

pub returns-in-Set-clause-crash : goal.returns-in-Set-clause-crash
returns-in-Set-clause-crash g c = rw (c.in-Set.is, c.nothing-in-Set.ensures.reply) (rw c.replace-value.ensures.value at c.set.ensures.crash)

pub returns-in-Unset-clause-moves : goal.returns-in-Unset-clause-moves
returns-in-Unset-clause-moves g c = rw (c.in-Unset.is, c.flag.ensures.reply) c.unset.ensures.moves

pub returns-in-Unset-clause-crash : goal.returns-in-Unset-clause-crash
returns-in-Unset-clause-crash g c = rw (c.in-Unset.is, c.flag.ensures.reply) c.unset.ensures.crash

pub returns-in-Alter-clause-moves : goal.returns-in-Alter-clause-moves
returns-in-Alter-clause-moves g c = rw c.in-Alter.is (rw c.as_slice.ensures.value at c.alter.ensures.moves)

pub returns-in-Alter-clause-crash : goal.returns-in-Alter-clause-crash
returns-in-Alter-clause-crash g c = rw c.in-Alter.is (rw c.as_slice.ensures.value at c.alter.ensures.crash)

pub returns-in-Change-clause-moves : goal.returns-in-Change-clause-moves
returns-in-Change-clause-moves g c = rw c.in-Change.is c.change.ensures.moves

pub returns-in-Change-clause-crash : goal.returns-in-Change-clause-crash
returns-in-Change-clause-crash g c = rw c.in-Change.is c.change.ensures.crash

pub returns-in-Upsert-clause-moves : goal.returns-in-Upsert-clause-moves
returns-in-Upsert-clause-moves g c = rw c.in-Upsert.is c.upsert.ensures.moves

pub returns-in-Upsert-clause-crash : goal.returns-in-Upsert-clause-crash
returns-in-Upsert-clause-crash g c = rw c.in-Upsert.is c.upsert.ensures.crash

pub returns-in-Remove-clause-moves : goal.returns-in-Remove-clause-moves
returns-in-Remove-clause-moves g c = rw (c.in-Remove.is, c.nothing-in-Remove.ensures.reply) c.remove.ensures.moves

pub returns-in-Remove-clause-crash : goal.returns-in-Remove-clause-crash
returns-in-Remove-clause-crash g c = rw (c.in-Remove.is, c.nothing-in-Remove.ensures.reply) c.remove.ensures.crash

pub returns-in-FindAndChange-clause-moves : goal.returns-in-FindAndChange-clause-moves
returns-in-FindAndChange-clause-moves g c = rw c.in-FindAndChange.is c.find_and_change.ensures.moves

pub returns-in-FindAndChange-clause-crash : goal.returns-in-FindAndChange-clause-crash
returns-in-FindAndChange-clause-crash g c = rw c.in-FindAndChange.is c.find_and_change.ensures.crash

pub returns-in-Import-clause-moves : goal.returns-in-Import-clause-moves
returns-in-Import-clause-moves g c = rw c.in-Import.is (rw c.as_slice-in-Import.ensures.value at c.import.ensures.moves)

pub returns-in-Import-clause-crash : goal.returns-in-Import-clause-crash
returns-in-Import-clause-crash g c = rw c.in-Import.is (rw c.as_slice-in-Import.ensures.value at c.import.ensures.crash)

pub returns-in-Transfer-clause-moves : goal.returns-in-Transfer-clause-moves
returns-in-Transfer-clause-moves g c = rw c.in-Transfer.is c.transfer.ensures.moves

pub returns-in-Transfer-clause-crash : goal.returns-in-Transfer-clause-crash
returns-in-Transfer-clause-crash g c = rw c.in-Transfer.is c.transfer.ensures.crash

pub returns-in-Index-clause-moves : goal.returns-in-Index-clause-moves
returns-in-Index-clause-moves g c =
    rw (c.in-Index.is, c.nothing-in-Index.ensures.reply) (indexed c.args.name.now (store_state g.S.Store c.args.store.now) (store_state g.S.Store c.index.new.self) c.index.result c.index.ensures.moves)

pub returns-in-DropIndex-clause-moves : goal.returns-in-DropIndex-clause-moves
returns-in-DropIndex-clause-moves g c =
    rw (c.in-DropIndex.is, c.nothing-in-DropIndex.ensures.reply) (indexed c.args.name.now (store_state g.S.Store c.args.store.now) (store_state g.S.Store c.drop_index.new.self) c.drop_index.result c.drop_index.ensures.moves)

use Rattle.std.proofs.Common.{Ok, Err}
use Rattle.store_table.specs.Change.{with_changes}
use Rattle.store_table.specs.Moves.{Changes}
use Rattle.bson_store.specs.Table.{indexed_state as table_state}
use Rattle.bson_store.specs.Calls.{store_state}
use Rattle.bson_store.proofs.MoveLemmas.{moved}
use Rattle.bson_store.proofs.WholeLemmas.{made, made_settles, made_survives, unmade}
use Rattle.bson_store.proofs.whole.make_drafted.Goals as goal

pub returns-in-Ok-clause-moves : goal.returns-in-Ok-clause-moves
returns-in-Ok-clause-moves g c =
    moved (store_state g.S.Store c.args.store.now) (table_state g.S.Store c.change_all.new.self) (Changes (with_changes c.changes.result.now) (Ok tt)) _ c.in-Ok.ensures.moves
    (λ docs after h. made c.args.edits.now.draft c.changes.result.now docs after c.changes.ensures h)

pub returns-in-Err-clause-moves : goal.returns-in-Err-clause-moves
returns-in-Err-clause-moves g c =
    rw c.fault_refusal.ensures (moved (store_state g.S.Store c.args.store.now) (table_state g.S.Store c.change_all.new.self) (Changes (with_changes c.changes.result.now) (Err c.in-Err.fault)) _ c.in-Err.ensures.moves
    (λ docs after h. unmade c.args.edits.now.draft (with_changes c.changes.result.now) c.in-Err.fault docs after h))

pub returns-in-Ok-clause-crash : goal.returns-in-Ok-clause-crash
returns-in-Ok-clause-crash g c = made_survives (store_state g.S.Store c.args.store.now) (table_state g.S.Store c.change_all.new.self) c.args.edits.now.draft c.changes.result.now c.changes.ensures c.change_all.ensures.crash

pub returns-in-Err-clause-crash : goal.returns-in-Err-clause-crash
returns-in-Err-clause-crash g c = made_survives (store_state g.S.Store c.args.store.now) (table_state g.S.Store c.change_all.new.self) c.args.edits.now.draft c.changes.result.now c.changes.ensures c.change_all.ensures.crash

pub returns-in-Ok-clause-settled : goal.returns-in-Ok-clause-settled
returns-in-Ok-clause-settled g c = made_settles (store_state g.S.Store c.args.store.now) (table_state g.S.Store c.change_all.new.self) c.args.edits.now.draft c.changes.result.now c.changes.ensures c.in-Ok.ensures.settled

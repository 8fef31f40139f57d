use Rattle.std.proofs.Common.{refl}
use Rattle.bson_model.specs.View.{content}
use Rattle.bson_store.specs.Calls.{store_state}
use Rattle.fallowtime_messages.specs.Waiting.{waiting}
use Rattle.fallowtime_messages.proofs.OutcomeLemmas.{carried, refused}
use Rattle.fallowtime_messages.proofs.serving.answer_command.Goals as goal

pub returns-in-Ok : goal.returns-in-Ok
returns-in-Ok g c =
    carried c.args.database.now (content c.args.command.now) c.args.lists.now (waiting c.args.cursors.now) (waiting c.carry.new.cursors) c.in-Ok.plan c.carry.result (store_state g.S.Store c.args.store.now) (store_state g.S.Store c.carry.new.store) c.in-Ok.ensures c.carry.ensures

pub returns-in-Err : goal.returns-in-Err
returns-in-Err g c =
    refused c.args.database.now (content c.args.command.now) c.args.lists.now (waiting c.args.cursors.now) (waiting c.args.cursors.now) c.in-Err.fault c.tell_fault.result (store_state g.S.Store c.args.store.now) refl c.in-Err.ensures c.tell_fault.ensures

use Rattle.bson_store.specs.Calls.{store_state}
use Rattle.fallowtime_messages.specs.Waiting.{waiting}
use Rattle.fallowtime_messages.proofs.OutcomeLemmas.{carried_one}
use Rattle.fallowtime_messages.proofs.carrying.carry_one.Goals as goal

pub returns : goal.returns
returns g c =
    let did = c.perform_statement-outcome in
    carried_one c.args.statement c.args.way.now did.result c.tell_by.result (waiting c.args.cursors.now) (waiting c.tell_by.new.cursors) (store_state g.S.Store c.args.store.now) (store_state g.S.Store did.new.store) did.ensures.did did.ensures.shape c.tell_by.ensures

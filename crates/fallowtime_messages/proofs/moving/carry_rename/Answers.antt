use Rattle.bson_store.specs.Calls.{store_state}
use Rattle.fallowtime_messages.proofs.MovingLemmas.{renamed}
use Rattle.fallowtime_messages.proofs.moving.carry_rename.Goals as goal

pub returns : goal.returns
returns g c = renamed c.args.name.now c.args.new.now c.rename-outcome.result c.tell_renamed.result (store_state g.S.Store c.args.store.now) (store_state g.S.Store c.rename-outcome.new.store) c.rename-outcome.ensures c.tell_renamed.ensures

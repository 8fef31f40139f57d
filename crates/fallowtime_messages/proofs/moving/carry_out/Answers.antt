use Rattle.bson_store.specs.Calls.{store_state}
use Rattle.fallowtime_messages.proofs.MovingLemmas.{carried_out}
use Rattle.fallowtime_messages.proofs.moving.carry_out.Goals as goal

pub returns : goal.returns
returns g c = carried_out c.args.target.now c.args.space.now c.args.statements c.count_and_find.result (store_state g.S.Store c.args.store.now) (store_state g.S.Store c.count_and_find.new.store) (rw c.into_iter-rest.ensures.rest at c.count_and_find.ensures)

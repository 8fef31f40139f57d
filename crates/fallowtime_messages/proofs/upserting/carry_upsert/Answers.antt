use Rattle.bson_store.specs.Calls.{store_state}
use Rattle.fallowtime_messages.specs.Outcomes.{GoesFound, LeadsOrStarts}
use Rattle.fallowtime_messages.proofs.UpsertLemmas.{carried_upserts}
use Rattle.fallowtime_messages.proofs.upserting.carry_upsert.Goals as goal

pub returns : goal.returns
returns g c = carried_upserts c.args.statements c.find_or_put.result (store_state g.S.Store c.args.store.now) (store_state g.S.Store c.find_or_put.new.store) (rw c.into_iter-rest.ensures.rest at c.find_or_put.ensures)

use Rattle.std.specs.Vec.Iter.{into_iter_items}
use Rattle.bson_store.specs.Calls.{store_state}
use Rattle.fallowtime_messages.proofs.UpsertLemmas.{not_put}
use Rattle.fallowtime_messages.proofs.upserting.behind_put.Goals as goal

pub returns-in_default : goal.returns-in_default
returns-in_default g c = not_put (into_iter_items c.args.rest.now) c.args.outcome.now c.tell_not_put.result (store_state g.S.Store c.args.store.now) c.tell_not_put.ensures

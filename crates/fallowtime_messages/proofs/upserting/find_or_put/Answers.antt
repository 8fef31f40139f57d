use Rattle.std.specs.Vec.Iter.{into_iter_items}
use Rattle.bson_store.specs.Calls.{store_state}
use Rattle.fallowtime_messages.specs.Outcomes.{GoesFound}
use Rattle.fallowtime_messages.proofs.UpsertLemmas.{led, led_none}
use Rattle.fallowtime_messages.proofs.upserting.find_or_put.Goals as goal

pub returns-in-None : goal.returns-in-None
returns-in-None g c =
    led_none (into_iter_items c.args.rest.now) (into_iter_items c.perform_next.new.rest) c.perform_next.result (store_state g.S.Store c.args.store.now) (store_state g.S.Store c.perform_next.new.store) c.perform_next.ensures GoesFound _ c.in-None.is

pub returns-in-Some : goal.returns-in-Some
returns-in-Some g c =
    led (into_iter_items c.args.rest.now) (into_iter_items c.perform_next.new.rest) c.perform_next.result (store_state g.S.Store c.args.store.now) (store_state g.S.Store c.perform_next.new.store) c.perform_next.ensures
    c.in-Some.outcome c.in-Some.is GoesFound c.behind_found.result (store_state g.S.Store c.behind_found.new.store) c.behind_found.ensures

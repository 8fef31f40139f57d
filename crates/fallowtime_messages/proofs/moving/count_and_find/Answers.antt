use Rattle.std.proofs.Common.{string_bytes}
use Rattle.std.specs.Vec.Iter.{into_iter_items}
use Rattle.bson_store.specs.Calls.{store_state}
use Rattle.fallowtime_messages.specs.Outcomes.{GoesIn, StartsIn}
use Rattle.fallowtime_messages.proofs.MovingLemmas.{led_by, none_led}
use Rattle.fallowtime_messages.proofs.moving.count_and_find.Goals as goal

pub returns-in-None : goal.returns-in-None
returns-in-None g c =
    none_led (GoesIn (string_bytes c.args.target.now) (string_bytes c.args.space.now)) (StartsIn (string_bytes c.args.target.now)) (into_iter_items c.perform_next.new.rest) c.perform_next.result (store_state g.S.Store c.args.store.now) (store_state g.S.Store c.perform_next.new.store) (into_iter_items c.args.rest.now) c.perform_next.ensures _ c.in-None.is

pub returns-in-Some : goal.returns-in-Some
returns-in-Some g c =
    led_by (GoesIn (string_bytes c.args.target.now) (string_bytes c.args.space.now)) (StartsIn (string_bytes c.args.target.now)) (into_iter_items c.perform_next.new.rest) c.perform_next.result (store_state g.S.Store c.args.store.now) (store_state g.S.Store c.perform_next.new.store) (into_iter_items c.args.rest.now) c.perform_next.ensures
    c.in-Some.outcome c.in-Some.is c.behind_count.result (store_state g.S.Store c.behind_count.new.store) c.behind_count.ensures

use Rattle.std.proofs.Common.{string_bytes}
use Rattle.std.specs.Vec.Iter.{into_iter_items}
use Rattle.bson_store.specs.Calls.{store_state}
use Rattle.fallowtime_messages.specs.Outcomes.{GoesOut, StartsOut}
use Rattle.fallowtime_messages.proofs.MovingLemmas.{led_by, none_led}
use Rattle.fallowtime_messages.proofs.moving.find_out.Goals as goal

pub returns-in-None : goal.returns-in-None
returns-in-None g c =
    none_led (GoesOut (string_bytes c.args.target.now) (string_bytes c.args.space.now)) (StartsOut (string_bytes c.args.target.now)) (into_iter_items c.perform_next.new.rest) c.perform_next.result (store_state g.S.Store c.args.store.now) (store_state g.S.Store c.perform_next.new.store) (into_iter_items c.args.rest.now) c.perform_next.ensures _ c.in-None.is

pub returns-in-Some : goal.returns-in-Some
returns-in-Some g c =
    led_by (GoesOut (string_bytes c.args.target.now) (string_bytes c.args.space.now)) (StartsOut (string_bytes c.args.target.now)) (into_iter_items c.perform_next.new.rest) c.perform_next.result (store_state g.S.Store c.args.store.now) (store_state g.S.Store c.perform_next.new.store) (into_iter_items c.args.rest.now) c.perform_next.ensures
    c.in-Some.outcome c.in-Some.is c.behind_find.result (store_state g.S.Store c.behind_find.new.store) (c.behind_find.ensures (into_iter_items c.perform_next.new.rest))

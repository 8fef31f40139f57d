use Rattle.std.proofs.Common.{◌≡◌, rules}
use Rattle.std.specs.Vec.Iter.{into_iter_items}
use Rattle.bson_base.specs.Value.{null, scalar}
use Rattle.bson_model.specs.View.{view}
use Rattle.bson_model.specs.declared.bson.Bson.{the_lemmas}
use Rattle.bson_model.specs.declared.bson.Bson.TheVariants.{Null}
use Rattle.bson_store.specs.Calls.{store_state}
use Rattle.fallowtime_messages.proofs.UpsertLemmas.{not_shown, shown}
use Rattle.fallowtime_messages.proofs.upserting.show.Goals as goal

pub returns-in-None : goal.returns-in-None
returns-in-None g c =
    let empty : view Null ≡ scalar null = search (rules, the_lemmas) in
    not_shown (into_iter_items c.args.rest.now) (into_iter_items c.perform_next.new.rest) c.perform_next.result (store_state g.S.Store c.args.store.now) (store_state g.S.Store c.perform_next.new.store) c.perform_next.ensures
    (view c.args.id.now) (view Null) c.put_in.result c.in-None.is empty c.put_in.ensures

pub returns-in-Some : goal.returns-in-Some
returns-in-Some g c =
    shown (into_iter_items c.args.rest.now) (into_iter_items c.perform_next.new.rest) c.perform_next.result (store_state g.S.Store c.args.store.now) (store_state g.S.Store c.perform_next.new.store) c.perform_next.ensures
    c.in-Some.outcome c.in-Some.is (view c.args.id.now) c.tell_shown.result c.tell_shown.ensures

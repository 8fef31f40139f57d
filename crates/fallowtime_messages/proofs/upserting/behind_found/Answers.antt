use Rattle.std.proofs.Common.{sym, ◌∙◌}
use Rattle.std.specs.Vec.Iter.{into_iter_items}
use Rattle.bson_store.specs.Calls.{store_state}
use Rattle.fallowtime_messages.proofs.UpsertLemmas.{puts_in, tells_found}
use Rattle.fallowtime_messages.proofs.upserting.behind_found.Goals as goal

pub returns-then-is_none : goal.returns-then-is_none
returns-then-is_none g c =
    puts_in (into_iter_items c.args.rest.now) c.args.outcome.now c.put.result (store_state g.S.Store c.args.store.now) (store_state g.S.Store c.put.new.store) (sym c.is_none.ensures ∙ c.if-is_none.true) c.put.ensures

pub returns-else-is_none : goal.returns-else-is_none
returns-else-is_none g c =
    tells_found (into_iter_items c.args.rest.now) c.args.outcome.now c.tell.result (store_state g.S.Store c.args.store.now) (sym c.is_none.ensures ∙ c.if-is_none.false) c.tell.ensures

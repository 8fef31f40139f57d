use Rattle.std.proofs.Common.{sym, ◌∙◌, string_bytes}
use Rattle.std.specs.Vec.Iter.{into_iter_items}
use Rattle.bson_store.specs.Calls.{store_state}
use Rattle.fallowtime_messages.proofs.MovingLemmas.{barred, enters}
use Rattle.fallowtime_messages.proofs.moving.behind_count.Goals as goal

pub returns-then-is_vacant : goal.returns-then-is_vacant
returns-then-is_vacant g c =
    enters (string_bytes c.args.target.now) (string_bytes c.args.space.now) (into_iter_items c.args.rest.now) c.args.outcome.now c.find_out.result (store_state g.S.Store c.args.store.now) (store_state g.S.Store c.find_out.new.store) (sym c.is_vacant.ensures ∙ c.if-is_vacant.true) c.find_out.ensures

pub returns-else-is_vacant : goal.returns-else-is_vacant
returns-else-is_vacant g c =
    barred (string_bytes c.args.target.now) (string_bytes c.args.space.now) (into_iter_items c.args.rest.now) c.args.outcome.now c.tell_barred.result (store_state g.S.Store c.args.store.now) (sym c.is_vacant.ensures ∙ c.if-is_vacant.false) c.tell_barred.ensures

use Rattle.std.proofs.Common.{string_bytes, rules}
use Rattle.bson_store.specs.Calls.{store_state}
use Rattle.fallowtime_messages.proofs.MovingLemmas.{not_out, puts}
use Rattle.fallowtime_messages.proofs.moving.behind_find.Goals as goal

pub returns-in-Ok-Documents : goal.returns-in-Ok-Documents
returns-in-Ok-Documents g c =
    puts (string_bytes c.args.target.now) (string_bytes c.args.space.now) c.in-Ok-Documents.bodies c.args.outcome.now c.put_out.result (store_state g.S.Store c.args.store.now) (store_state g.S.Store c.put_out.new.store) (search rules)
    (rw c.as_slice.ensures.value at c.put_out.ensures)

pub returns-in_default : goal.returns-in_default
returns-in_default g c = not_out (string_bytes c.args.target.now) (string_bytes c.args.space.now) c.args.outcome.now c.tell_unfound.result (store_state g.S.Store c.args.store.now) c.tell_unfound.ensures

use Rattle.std.proofs.Common.{rules, w64}
use Rattle.std.proofs.lemmas.Int.{to_z-of_z}
use Rattle.bson_store.specs.Calls.{store_state}
use Rattle.fallowtime_messages.specs.Waiting.{waiting}
use Rattle.fallowtime_messages.proofs.OutcomeLemmas.{carried_closed, carried_inserts, carried_more, carried_told}
use Rattle.fallowtime_messages.proofs.MovingLemmas.{carried_rename}
use Rattle.fallowtime_messages.proofs.carrying.carry.Goals as goal

pub returns-in-Told : goal.returns-in-Told
returns-in-Told g c = rw c.in-Told.is (carried_told c.in-Told.document (waiting c.args.cursors.now) (store_state g.S.Store c.args.store.now))

pub returns-in-One : goal.returns-in-One
returns-in-One g c = rw c.in-One.is c.carry_one.ensures

pub returns-in-More : goal.returns-in-More
returns-in-More g c =
    let m = c.in-More in
    rw m.is (carried_more m.space m.id _ _ m.size (waiting c.args.cursors.now) (waiting c.tell_more.new.cursors) c.tell_more.result (store_state g.S.Store c.args.store.now) (to_z-of_z w64 m.id (search rules)) c.as_str.ensures.value c.tell_more.ensures)

pub returns-in-Closes : goal.returns-in-Closes
returns-in-Closes g c =
    rw c.in-Closes.is (carried_closed c.in-Closes.space c.in-Closes.ids (waiting c.args.cursors.now) (waiting c.tell_closed.new.cursors) c.tell_closed.result (store_state g.S.Store c.args.store.now)
    (rw c.as_str-in-Closes.ensures.value at (rw c.as_slice.ensures.value at c.tell_closed.ensures)))

pub returns-in-Upserts : goal.returns-in-Upserts
returns-in-Upserts g c = rw c.in-Upserts.is (c.carry_upsert.ensures (waiting c.args.cursors.now))

pub returns-in-Writes : goal.returns-in-Writes
returns-in-Writes g c = rw c.in-Writes.is (c.carry_writes.ensures (waiting c.args.cursors.now))

pub returns-in-Inserts : goal.returns-in-Inserts
returns-in-Inserts g c =
    let i = c.in-Inserts in
    rw i.is (carried_inserts i.name i.documents i.stops (waiting c.args.cursors.now) c.carry_inserts.result (store_state g.S.Store c.args.store.now) (store_state g.S.Store c.carry_inserts.new.store) (rw c.as_slice-in-Inserts.ensures.value at c.carry_inserts.ensures))

pub returns-in-Renames : goal.returns-in-Renames
returns-in-Renames g c =
    let r = c.in-Renames in
    rw r.is (carried_rename r.name r.new (waiting c.args.cursors.now) c.carry_rename.result (store_state g.S.Store c.args.store.now) (store_state g.S.Store c.carry_rename.new.store)
    (rw c.as_str-in-Renames.ensures.value at (rw c.as_str-in-Renames-2.ensures.value at c.carry_rename.ensures)))

pub returns-in-Outs : goal.returns-in-Outs
returns-in-Outs g c = rw c.in-Outs.is (c.carry_out.ensures (waiting c.args.cursors.now))

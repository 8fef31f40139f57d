use Rattle.std.proofs.Common.{Ok, Err}
use Rattle.bson_model.specs.View.{view}
use Rattle.bson_store.specs.Calls.{store_state}
use Rattle.bson_store.proofs.MoveLemmas.{moved, moved_twice}
use Rattle.bson_store.specs.Drafting.{GetsDrafted}
use Rattle.fallowtime_commands.proofs.AlteringLemmas.{alter_put, alter_ungot, alter_unmade}
use Rattle.fallowtime_commands.proofs.session.altering.alter.Goals as goal

pub returns-in-Err-clause-moves : goal.returns-in-Err-clause-moves
returns-in-Err-clause-moves g c =
    moved (store_state g.S.Store c.args.store.now) (store_state g.S.Store c.get_drafted.new.store) (GetsDrafted c.args.name.now (view c.args.id.now) c.args.edits.now.draft (Err c.in-Err.error)) _ c.in-Err.ensures.moves (λ docs after h. alter_ungot c.args.name.now c.args.id.now c.args.steps.now c.args.told c.args.edits.now.draft docs after c.in-Err.error h)

pub returns-in-Ok-alteration-clause-moves : goal.returns-in-Ok-alteration-clause-moves
returns-in-Ok-alteration-clause-moves g c =
    let xs = c.in-Ok-alteration.changes.items in
    moved_twice (store_state g.S.Store c.args.store.now) (store_state g.S.Store c.get_drafted.new.store) (store_state g.S.Store c.put_all-outcome.new.store) (GetsDrafted c.args.name.now (view c.args.id.now) c.args.edits.now.draft (Ok c.in-Ok.body)) _ _ c.in-Ok.ensures.moves (rw c.as_slice-in-Ok-alteration-2.ensures.value at c.put_all-outcome.ensures.moves)
    (λ docs mid after h k. alter_put c.args.name.now c.args.id.now c.args.steps.now c.args.told c.in-Ok.body xs c.altered-answer.result c.put_all-outcome.result c.args.edits.now.draft c.put_all-outcome.new.edits.draft docs mid after (rw c.as_slice-in-Ok-alteration.ensures.value at c.altered-answer.ensures) (λ d kept is. rw c.as_slice-2.ensures.value at c.in-Ok-alteration.ensures d kept (rw c.as_slice.ensures.value is)) h k)

pub returns-clause-moves : goal.returns-clause-moves
returns-clause-moves g c =
    rw c.reason_of.ensures (moved (store_state g.S.Store c.args.store.now) (store_state g.S.Store c.get_drafted.new.store) (GetsDrafted c.args.name.now (view c.args.id.now) c.args.edits.now.draft (Ok c.in-Ok.body)) _ c.in-Ok.ensures.moves
    (λ docs after h. alter_unmade c.args.name.now c.args.id.now c.args.steps.now c.args.told c.in-Ok.body c.args.edits.now.draft docs after c.in-Err-alteration.unmade (λ d kept is. rw c.as_slice-2.ensures.value at c.in-Err-alteration.ensures d kept (rw c.as_slice.ensures.value is)) h))

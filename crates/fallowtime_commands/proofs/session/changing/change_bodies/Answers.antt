use Rattle.std.proofs.Common.{◌∙◌}
use Rattle.bson_store.proofs.MoveLemmas.{moved, rests}
use Rattle.bson_store.specs.Calls.{store_state}
use Rattle.fallowtime_commands.proofs.ChangeLemmas.{done_is_change}
use Rattle.fallowtime_commands.specs.Performing.{IsChange}
use Rattle.fallowtime_commands.proofs.ChangingLemmas.{answered_so, bodies_changed, bodies_unmade}
use Rattle.fallowtime_commands.proofs.session.changing.change_bodies.Goals as goal

pub returns-in-Ok-clause-moves : goal.returns-in-Ok-clause-moves
returns-in-Ok-clause-moves g c =
    moved (store_state g.S.Store c.args.store.now) (store_state g.S.Store c.put_all-outcome.new.store) _ _ (rw c.as_slice-in-Ok.ensures.value at c.put_all-outcome.ensures.moves)
    (λ docs after h. bodies_changed c.args.name.now c.args.work.now c.args.bodies.now c.in-Ok.changes.items _ _ c.args.edits.now.draft c.put_all-outcome.new.edits.draft docs after (c.len.ensures ∙ c.args.bodies.now.ok.0) (c.len-in-Ok.ensures ∙ c.in-Ok.changes.ok.0) (rw c.as_slice.ensures.value at c.in-Ok.ensures.edits) c.answer_to-answer.result c.put_all-outcome.result c.answer_to-answer.ensures h)

pub returns-in-Ok-clause-shape : goal.returns-in-Ok-clause-shape
returns-in-Ok-clause-shape g c =
    answered_so (IsChange c.args.work.now) c.answer_to-answer.result _ c.put_all-outcome.result (done_is_change c.args.work.now _ _) c.answer_to-answer.ensures c.put_all-outcome.ensures.shape

pub returns-in-Err-clause-moves : goal.returns-in-Err-clause-moves
returns-in-Err-clause-moves g c =
    rw c.reason_of.ensures (rests (store_state g.S.Store c.args.store.now) _ (λ docs. bodies_unmade c.args.name.now c.args.work.now c.args.bodies.now c.in-Err.unmade c.args.edits.now.draft docs (rw c.as_slice.ensures.value at c.in-Err.ensures.edits)))

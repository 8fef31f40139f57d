use Rattle.std.proofs.Common.{arith}
use Rattle.std.proofs.lemmas.Result.{err_from_is_err_and}
use Rattle.fallowtime_commands.proofs.ChangeLemmas.{edits_all, edits_next, none_yet, stops, out_of_memory, memory_can_be}
use Rattle.fallowtime_commands.proofs.changing.edits_of.Goals as goal

pub loop-at-init : goal.loop-at-init
loop-at-init c ds kept same = none_yet c.args.name.now c.args.work.now c.args.bodies.now ds kept same c.new-edits.result.items c.new-edits.ensures.items

pub loop-at-preserved : goal.loop-at-preserved
loop-at-preserved c ds kept same =
    edits_next c.args.name.now c.args.work.now c.args.bodies.now ds kept same c.loop-at.at c.index-bodies-at.result c.loop-at.edits.items c.push.new.edits.items c.in_ok-edit.edit
    c.loop-at-test.true c.index-bodies-at.is (c.loop-at.invariant ds kept same) (λ d own is. c.in_ok-edit.ensures.becomes d own (rw c.as_slice.ensures.value is)) c.in_ok-push.ensures

pub returns-clause-edits : goal.returns-clause-edits
returns-clause-edits c ds kept same =
    edits_all c.args.name.now c.args.work.now c.args.bodies.now ds kept same c.loop-at.at c.loop-at.edits.items (omega (arith, c.loop-at-test.false, c.loop-at.auto.at-end)) (c.loop-at.invariant ds kept same)

pub returns-in_err-edit-clause-edits : goal.returns-in_err-edit-clause-edits
returns-in_err-edit-clause-edits c =
    let p = err_from_is_err_and c.from_residual.result c.from_residual.ensures.1 in
    rw (p.1, p.2) (λ ds kept same.
    stops c.args.name.now c.args.work.now c.args.bodies.now ds kept same c.loop-at.at c.index-bodies-at.result c.loop-at.edits.items c.in_err-edit.field-0.0
    c.loop-at-test.true c.index-bodies-at.is (c.loop-at.invariant ds kept same) (λ d own is. c.in_err-edit.ensures.becomes d own (rw c.as_slice.ensures.value is)))

pub returns-in_err-push-clause-edits : goal.returns-in_err-push-clause-edits
returns-in_err-push-clause-edits c =
    let p = err_from_is_err_and c.from_residual-in_err-push.result c.from_residual-in_err-push.ensures.1 in
    rw (p.1, p.2) (λ ds kept same.
    stops c.args.name.now c.args.work.now c.args.bodies.now ds kept same c.loop-at.at c.index-bodies-at.result c.loop-at.edits.items c.in_err-push.field-0.0
    c.loop-at-test.true c.index-bodies-at.is (c.loop-at.invariant ds kept same) (λ d own is. out_of_memory c.args.work.now d c.loop-at.at c.in_err-push.field-0.0 c.in_err-push.ensures))

pub returns-in_err-push-clause-shape : goal.returns-in_err-push-clause-shape
returns-in_err-push-clause-shape c =
    let p = err_from_is_err_and c.from_residual-in_err-push.result c.from_residual-in_err-push.ensures.1 in
    rw (p.1, p.2) (memory_can_be c.args.work.now c.in_err-push.field-0.0 c.in_err-push.ensures)

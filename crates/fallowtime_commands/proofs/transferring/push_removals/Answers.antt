use Rattle.std.proofs.Common.{◌<◌, arith, length}
use Rattle.std.proofs.lemmas.Result.{err_from_is_err_and}
use Rattle.fallowtime_commands.proofs.DraftLemmas.{all_removed, none_more, none_removed, one_removed}
use Rattle.fallowtime_commands.proofs.transferring.push_removals.Goals as goal

pub loop-body-init : goal.loop-body-init
loop-body-init c ds kept same = none_removed c.args.name.now c.args.bodies.now ds kept same c.args.edits.now.items

pub loop-body-preserved : goal.loop-body-preserved
loop-body-preserved c ds kept same =
    let pushed = c.in_ok-push_removal.ensures in
    let low : c.loop-body.body-index < length c.args.bodies.now = let h = c.loop-body-test.true in omega (arith, h) in
    one_removed c.args.name.now c.args.bodies.now ds kept same c.args.edits.now.items c.loop-body.body-index c.body-item.result c.loop-body.edits.items c.push_removal.new.edits.items low c.body-item.is
    (λ d own is. (pushed.0, pushed.2 d own (rw c.as_slice.ensures.value is), pushed.1)) (c.loop-body.invariant ds kept same)

pub returns : goal.returns
returns c ds kept same =
    let end = c.loop-body-test.false in
    all_removed c.args.name.now c.args.bodies.now ds kept same c.args.edits.now.items c.loop-body.body-index c.loop-body.edits.items (omega (arith, end)) (c.loop-body.invariant ds kept same)

pub returns-in_err-push_removal : goal.returns-in_err-push_removal
returns-in_err-push_removal c =
    let p = err_from_is_err_and c.from_residual.result c.from_residual.ensures.1 in
    rw (p.1, p.2) (λ ds kept same.
    let low : c.loop-body.body-index < length c.args.bodies.now = let h = c.loop-body-test.true in omega (arith, h) in
    none_more c.args.name.now c.args.bodies.now ds kept same c.args.edits.now.items c.loop-body.body-index c.body-item.result c.in_err-push_removal.field-0.0 low c.body-item.is
    (λ d own is. c.in_err-push_removal.ensures d own (rw c.as_slice.ensures.value is)))

use Rattle.std.proofs.Common.{◌<◌, arith, length}
use Rattle.std.proofs.lemmas.Result.{err_from_is_err_and}
use Rattle.fallowtime_commands.proofs.DraftLemmas.{all_inserted, none_inserted, one_inserted}
use Rattle.fallowtime_commands.proofs.transferring.push_insertions.Goals as goal

pub loop-body-init : goal.loop-body-init
loop-body-init c ds same = none_inserted c.args.name.now c.args.bodies.now ds same c.args.edits.now.items

pub loop-body-preserved : goal.loop-body-preserved
loop-body-preserved c ds same =
    let pushed = c.in_ok-push_insertion.ensures in
    let low : c.loop-body.body-index < length c.args.bodies.now = let h = c.loop-body-test.true in omega (arith, h) in
    one_inserted c.args.name.now c.args.bodies.now ds same c.args.edits.now.items c.loop-body.body-index c.body-item.result pushed.0 c.loop-body.edits.items c.push_insertion.new.edits.items low c.body-item.is (λ d is. pushed.2 d (rw c.as_slice.ensures.value is)) pushed.1 (c.loop-body.invariant ds same)

pub returns : goal.returns
returns c ds same =
    let end = c.loop-body-test.false in
    all_inserted c.args.name.now c.args.bodies.now ds same c.args.edits.now.items c.loop-body.body-index c.loop-body.edits.items (omega (arith, end)) (c.loop-body.invariant ds same)

pub returns-in_err-push_insertion : goal.returns-in_err-push_insertion
returns-in_err-push_insertion c =
    let p = err_from_is_err_and c.from_residual.result c.from_residual.ensures.1 in
    rw (p.1, p.2) (λ ds same. c.in_err-push_insertion.ensures)

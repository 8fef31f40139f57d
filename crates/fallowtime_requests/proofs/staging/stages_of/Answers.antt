use Rattle.std.proofs.Common.{add-one, suc, sym, subst}
use Rattle.std.proofs.lemmas.Result.{err_from_is_err_and}
use Rattle.fallowtime_requests.proofs.StageLemmas.{StagesSoFar, all_stages, no_room_here, one_more_stage, stops_here}
use Rattle.fallowtime_requests.proofs.staging.stages_of.Goals as goal

pub loop-item-preserved : goal.loop-item-preserved
loop-item-preserved c =
    let l = c.loop-item in
    rw add-one (
    subst (λ ss. StagesSoFar c.args.items.now ss (suc l.item-index)) (sym c.in_ok-push.ensures.items)
    (one_more_stage c.args.items.now l.stages.items l.item-index c.item-item.result l.invariant c.loop-item-test.true (sym c.item-item.is) c.in_ok-stage.stage c.in_ok-stage.ensures)
    )

pub returns-in_err-stage : goal.returns-in_err-stage
returns-in_err-stage c =
    let l = c.loop-item in
    let p = err_from_is_err_and c.from_residual.result c.from_residual.ensures.1 in
    rw (p.1, p.2) (stops_here c.args.items.now l.stages.items l.item-index c.item-item.result l.invariant c.loop-item-test.true (sym c.item-item.is) c.in_err-stage.field-0.0 c.in_err-stage.ensures)

pub returns-in_err-push : goal.returns-in_err-push
returns-in_err-push c =
    let l = c.loop-item in
    let p = err_from_is_err_and c.from_residual-in_err-push.result c.from_residual-in_err-push.ensures.1 in
    rw (p.1, p.2) (no_room_here c.args.items.now l.stages.items l.item-index c.item-item.result l.invariant c.loop-item-test.true (sym c.item-item.is) c.in_ok-stage.stage c.in_ok-stage.ensures)

pub returns : goal.returns
returns c = all_stages c.args.items.now c.loop-item.stages.items c.loop-item.item-index c.loop-item.invariant c.loop-item-test.false

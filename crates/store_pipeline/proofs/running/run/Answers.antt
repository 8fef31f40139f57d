use Rattle.std.proofs.Common.{arith}
use Rattle.std.proofs.lemmas.Result.{err_from_is_err_and}
use Rattle.store_pipeline.proofs.RunLemmas.{begun, finished, one_more, stopped}
use Rattle.store_pipeline.proofs.running.run.Goals as goal

pub loop-stage-init : goal.loop-stage-init
loop-stage-init c = λ ds are. begun c.args.stages.now ds c.args.bodies.items are

pub loop-stage-preserved : goal.loop-stage-preserved
loop-stage-preserved c = λ ds are.
    one_more c.args.stages.now c.loop-stage.stage-index c.stage-item.result ds c.loop-stage.bodies.items (omega (arith, c.loop-stage-test.true, c.loop-stage.auto.stage-index-end)) c.stage-item.is (c.loop-stage.invariant ds are) c.in_ok-bodies.bodies c.in_ok-bodies.ensures

pub returns-in_err-bodies : goal.returns-in_err-bodies
returns-in_err-bodies c = λ ds are.
    let p = err_from_is_err_and c.from_residual.result c.from_residual.ensures.1 in
    rw (p.1, p.2) (stopped c.args.stages.now c.loop-stage.stage-index c.stage-item.result ds c.loop-stage.bodies.items (omega (arith, c.loop-stage-test.true, c.loop-stage.auto.stage-index-end)) c.stage-item.is (c.loop-stage.invariant ds are) c.in_err-bodies.field-0.0 c.in_err-bodies.ensures)

pub returns : goal.returns
returns c = λ ds are. finished c.args.stages.now c.loop-stage.stage-index ds c.loop-stage.bodies (omega (arith, c.loop-stage-test.false, c.loop-stage.auto.stage-index-end)) (c.loop-stage.invariant ds are)

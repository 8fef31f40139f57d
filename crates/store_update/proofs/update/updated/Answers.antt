use Rattle.std.proofs.Common.{◌<◌, length, map, sym, ap, arith}
use Rattle.std.proofs.lemmas.Result.{err_from_is_err_and}
use Rattle.bson_model.specs.View.{content}
use Rattle.store_update.specs.Plan.{plan_of}
use Rattle.store_update.specs.Update.{updated}
use Rattle.store_update.proofs.UpdateLemmas.{drop_none, one_step, no_step, all_steps}
use Rattle.store_update.proofs.update.updated.Goals as goal

pub loop-step-init : goal.loop-step-init
loop-step-init c = ap (λ xs. updated c.args.inserts (map plan_of xs) (content c.args.document)) (sym (drop_none c.args.steps.now))

pub loop-step-preserved : goal.loop-step-preserved
loop-step-preserved c =
    let steps = c.args.steps.now in
    let low : c.loop-step.step-index < length steps = omega (arith, c.loop-step-test.true, c.loop-step.auto.step-index-end) in
    one_step c.args.inserts steps c.loop-step.step-index c.step-item.result (content c.args.document) (content c.loop-step.document) (content c.in_ok-document.document) low c.step-item.is c.loop-step.invariant c.in_ok-document.ensures

pub returns-in_err-document : goal.returns-in_err-document
returns-in_err-document c =
    let steps = c.args.steps.now in
    let low : c.loop-step.step-index < length steps = omega (arith, c.loop-step-test.true, c.loop-step.auto.step-index-end) in
    let p = err_from_is_err_and c.from_residual.result c.from_residual.ensures.1 in
    rw (p.1, p.2) (no_step c.args.inserts steps c.loop-step.step-index c.step-item.result (content c.args.document) (content c.loop-step.document) c.in_err-document.field-0.0 low c.step-item.is c.loop-step.invariant c.in_err-document.ensures)

pub returns : goal.returns
returns c = all_steps c.args.inserts c.args.steps.now c.loop-step.step-index (content c.args.document) (content c.loop-step.document) (omega (arith, c.loop-step-test.false, c.loop-step.auto.step-index-end)) c.loop-step.invariant

use Rattle.std.proofs.Common.{◌<◌, length, arith}
use Rattle.std.proofs.lemmas.Result.{err_from_is_err_and}
use Rattle.bson_model.specs.View.{view}
use Rattle.store_pipeline.proofs.SumLemmas.{sum_stops}
use Rattle.store_pipeline.proofs.accumulating.sum_of.Goals as goal

pub returns-in_err-total : goal.returns-in_err-total
returns-in_err-total c =
    let p = err_from_is_err_and c.from_residual.result c.from_residual.ensures.1 in
    let low : c.loop-value.value-index < length c.args.values.now = omega (arith, c.loop-value-test.true, c.loop-value.auto.value-index-end) in
    rw (p.1, p.2) (sum_stops c.args.values.now c.loop-value.value-index c.value-item.result _ (view c.loop-value.total) low c.value-item.is c.loop-value.invariant c.in_err-total.field-0.0 c.in_err-total.ensures)

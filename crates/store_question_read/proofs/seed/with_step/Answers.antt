use Rattle.std.proofs.Common.{ap, map}
use Rattle.std.proofs.lemmas.Result.{err_from_is_err_and}
use Rattle.bson_base.specs.Scalars.{millis_of}
use Rattle.json.specs.Value.{value_view}
use Rattle.store_update.specs.Plan.{plan_of}
use Rattle.store_question_read.specs.Seed.{fixed_by}
use Rattle.store_question_read.proofs.ReadLemmas.{failed_plan}
use Rattle.store_question_read.proofs.seed.with_step.Goals as goal

pub returns-in_err-step : goal.returns-in_err-step
returns-in_err-step c =
    let p = err_from_is_err_and c.from_residual.result c.from_residual.ensures.1 in
    rw (p.1, p.2)
    (failed_plan (millis_of c.no_date.result) (fixed_by c.args.seed) c.args.path.now (value_view c.args.body.now) (map plan_of c.as_slice.result.now) c.in_err-step.field-0.0 c.no_date.ensures (ap (map plan_of) c.as_slice.ensures.value) c.in_err-step.ensures)

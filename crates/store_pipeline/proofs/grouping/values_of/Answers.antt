use Rattle.std.proofs.Common.{◌<◌, ◌≤◌, length, arith}
use Rattle.store_pipeline.proofs.FieldLemmas.{values_all, values_more}
use Rattle.store_pipeline.proofs.grouping.values_of.Goals as goal

pub loop-body-preserved : goal.loop-body-preserved
loop-body-preserved c = λ ds are.
    let low : c.loop-body.body-index < length c.args.bodies.now = omega (arith, c.loop-body-test.true, c.loop-body.auto.body-index-end) in
    values_more c.args.field.now c.args.bodies.now ds are c.loop-body.body-index _ c.loop-body.values.items c.add_value.new.values.items low c.in_ok-add_value.ensures (c.loop-body.invariant ds are)

pub returns : goal.returns
returns c = λ ds are.
    let end : length c.args.bodies.now ≤ c.loop-body.body-index = omega (arith, c.loop-body-test.false, c.loop-body.auto.body-index-end) in
    values_all c.args.field.now c.args.bodies.now ds are c.loop-body.body-index c.loop-body.values.items end (c.loop-body.invariant ds are)

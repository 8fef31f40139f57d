use Rattle.std.proofs.Common.{◌<◌, ◌≤◌, length, arith}
use Rattle.store_pipeline.proofs.GroupLemmas.{group_all, group_more, groups_begin}
use Rattle.store_pipeline.proofs.grouping.grouped.Goals as goal

pub loop-body-init : goal.loop-body-init
loop-body-init c = λ ds are. groups_begin c.args.key.now ds c.new-groups.result.items c.new-groups.ensures.items

pub loop-body-preserved : goal.loop-body-preserved
loop-body-preserved c = λ ds are.
    let low : c.loop-body.body-index < length c.args.bodies.now = omega (arith, c.loop-body-test.true, c.loop-body.auto.body-index-end) in
    group_more c.args.key.now c.args.bodies.now ds are c.loop-body.body-index c.body-item.result c.as_slice-bytes.result.now c.in_ok-found.found c.loop-body.groups.items c.put_in.new.groups.items low c.body-item.is c.as_slice-bytes.ensures.value c.in_ok-found.ensures c.in_ok-put_in.ensures (c.loop-body.invariant ds are)

pub returns : goal.returns
returns c = λ ds are.
    let end : length c.args.bodies.now ≤ c.loop-body.body-index = omega (arith, c.loop-body-test.false, c.loop-body.auto.body-index-end) in
    group_all c.args.key.now c.args.bodies.now ds are c.loop-body.body-index c.loop-body.groups.items end (c.loop-body.invariant ds are)

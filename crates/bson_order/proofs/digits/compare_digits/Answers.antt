use Rattle.std.proofs.Common.{rules, ◌<◌, length, arith}
use Rattle.bson_order.proofs.DigitLemmas.{digit_turn}
use Rattle.bson_order.proofs.digits.compare_digits.Goals as goal

pub loop-i-preserved : goal.loop-i-preserved
loop-i-preserved c =
    let lx : c.loop-i.i < length c.args.digits.now = omega arith in
    let ly : c.loop-i.i < length c.args.others.now = omega arith in
    digit_turn c.args.digits.now c.args.others.now c.loop-i.i c.loop-i.order c.cmp.result c.then-order.result lx ly (search rules) (search rules) c.loop-i.invariant.0 c.loop-i.invariant.1 c.loop-i.invariant.2 c.cmp.ensures c.then-order.ensures

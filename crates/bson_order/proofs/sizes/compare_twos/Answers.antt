use Rattle.std.proofs.Common.{◌≤◌, ◌*◌, ◌^◌, arith, lit<, ◌∙◌}
use Rattle.bson_order.proofs.SizeLemmas.{turned, lifted}
use Rattle.bson_order.proofs.sizes.compare_twos.Goals as goal

pub returns-then-x-y : goal.returns-then-x-y
returns-then-x-y c =
    let le : c.args.x ≤ c.args.y = omega arith in
    turned (c.args.s * 2 ^ c.args.x) (c.args.t * 2 ^ c.args.y) c.lift_twos.result c.reverse.result (c.lift_twos.ensures ∙ lifted 2 c.args.t c.args.y c.args.s c.args.x (lit< tt) le) c.reverse.ensures

pub returns-else-x-y : goal.returns-else-x-y
returns-else-x-y c = c.lift_twos-else-x-y.ensures ∙ lifted 2 c.args.s c.args.x c.args.t c.args.y (lit< tt) c.if-x-y.false

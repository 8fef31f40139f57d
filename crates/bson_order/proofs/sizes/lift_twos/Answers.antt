use Rattle.std.proofs.Common.{◌<◌, arith, lit<}
use Rattle.bson_order.proofs.SizeLemmas.{twos_fit, beyond}
use Rattle.bson_order.proofs.sizes.lift_twos.Goals as goal

pub pow-requires : goal.pow-requires
pow-requires c = twos_fit c.args.k c.if-k-lt113.true

pub returns-else-s-eq0 : goal.returns-else-s-eq0
returns-else-s-eq0 c =
    let some : 0 < c.args.s = omega arith in
    beyond 2 c.args.s c.args.k 113 c.args.t (lit< tt) some c.if-k-lt113.false c.requires

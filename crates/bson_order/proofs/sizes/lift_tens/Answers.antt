use Rattle.std.proofs.Common.{◌<◌, ◌≤◌, sym, subst, arith, lit<}
use Rattle.bson_order.proofs.SizeLemmas.{tens_fit, power_positive, beyond}
use Rattle.bson_order.proofs.sizes.lift_tens.Goals as goal

pub pow-requires : goal.pow-requires
pow-requires c = tens_fit c.args.k c.if-k-le34.true

pub compare_product-requires : goal.compare_product-requires
compare_product-requires c = subst (λ n. 0 < n) (sym c.pow.ensures) (power_positive 10 c.args.k (lit< tt))

pub returns-else-c-eq0 : goal.returns-else-c-eq0
returns-else-c-eq0 c =
    let some : 0 < c.args.c = omega arith in
    let many : 34 ≤ c.args.k = omega arith in
    beyond 10 c.args.c c.args.k 34 c.args.d (lit< tt) some many c.requires

use Rattle.std.proofs.Common.{◌<◌, ◌^◌, ◌*◌, ap, sym, subst, lit<, ◌∙◌}
use Rattle.std.specs.Ordering.{nat_cmp}
use Rattle.bson_order.proofs.SizeLemmas.{fives_fit, power_positive, many_fives, beside}
use Rattle.bson_order.proofs.sizes.lift_fives.Goals as goal

pub returns-then-n-gt55 : goal.returns-then-n-gt55
returns-then-n-gt55 c = many_fives c.args.a c.args.n c.args.k c.args.b c.requires.some c.if-n-gt55.true c.requires.second

pub pow-factor-requires : goal.pow-factor-requires
pow-factor-requires c = fives_fit c.args.n c.if-n-gt55.false

pub nonzero_div-b : goal.nonzero_div-b
nonzero_div-b c = subst (λ n. 0 < n) (sym c.pow-factor.ensures) (power_positive 5 c.args.n (lit< tt))

pub nonzero_rem-b : goal.nonzero_rem-b
nonzero_rem-b c = subst (λ n. 0 < n) (sym c.pow-factor.ensures) (power_positive 5 c.args.n (lit< tt))

pub returns : goal.returns
returns c =
    let some : 0 < c.pow-factor.result = subst (λ n. 0 < n) (sym c.pow-factor.ensures) (power_positive 5 c.args.n (lit< tt)) in
    beside c.args.a c.pow-factor.result c.args.k c.args.b c.lift_twos.result c.through_quotient.result some c.lift_twos.ensures c.through_quotient.ensures
    ∙ ap (λ f. nat_cmp (c.args.a * f * 2 ^ c.args.k) c.args.b) c.pow-factor.ensures

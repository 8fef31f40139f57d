use Rattle.std.proofs.Common.{◌≤◌, ◌*◌, ◌^◌, ap, sym, arith, lit<, ◌∙◌}
use Rattle.std.specs.Ordering.{nat_cmp}
use Rattle.bson_order.proofs.SizeLemmas.{cancel, power_positive, turned, lifted}
use Rattle.bson_order.proofs.sizes.compare_tens.Goals as goal

pub returns-then-e-f : goal.returns-then-e-f
returns-then-e-f c =
    c.cmp.ensures ∙ sym (cancel c.args.c c.args.d (10 ^ c.args.e) (power_positive 10 c.args.e (lit< tt))) ∙ ap (λ n. nat_cmp (c.args.c * 10 ^ c.args.e) (c.args.d * 10 ^ n)) c.if-e-f.true

pub returns-then-e-f-2 : goal.returns-then-e-f-2
returns-then-e-f-2 c =
    let le : c.args.e ≤ c.args.f = omega arith in
    turned (c.args.c * 10 ^ c.args.e) (c.args.d * 10 ^ c.args.f) c.lift_tens.result c.reverse.result (c.lift_tens.ensures ∙ lifted 10 c.args.d c.args.f c.args.c c.args.e (lit< tt) le) c.reverse.ensures

pub returns-else-e-f-2 : goal.returns-else-e-f-2
returns-else-e-f-2 c = c.lift_tens-else-e-f-2.ensures ∙ lifted 10 c.args.c c.args.e c.args.d c.args.f (lit< tt) c.if-e-f-2.false

use Rattle.std.proofs.Common.{◌≡◌, ◌<◌, ◌+◌, ◌-◌, ◌*◌, ◌^◌, ◌∙◌, ap, sym, subst, arith, lit<, zero-mul, mul-pos}
use Rattle.bson_order.specs.Line.{least_double}
use Rattle.bson_order.proofs.SizeLemmas.{above, turned, mixed_low, mixed_high, power_positive, least_positive, started}
use Rattle.bson_order.proofs.sizes.compare_mixed.Goals as goal

pub returns-then-c-eq0 : goal.returns-then-c-eq0
returns-then-c-eq0 c = started c.args.c c.args.s (10 ^ c.args.e) (2 ^ c.args.x) least_double c.cmp.result c.if-c-eq0.true (power_positive 2 c.args.x (lit< tt)) least_positive c.cmp.ensures

pub returns-then-s-eq0 : goal.returns-then-s-eq0
returns-then-s-eq0 c =
    let some : 0 < c.args.c = omega arith in
    let less : c.args.s * 2 ^ c.args.x * least_double ≡ 0 = ap (λ s. s * 2 ^ c.args.x * least_double) c.if-s-eq0.true ∙ ap (λ n. n * least_double) (zero-mul (2 ^ c.args.x)) ∙ zero-mul least_double in
    let more : 0 < c.args.c * 10 ^ c.args.e = mul-pos some (power_positive 10 c.args.e (lit< tt)) in
    above (c.args.c * 10 ^ c.args.e) (c.args.s * 2 ^ c.args.x * least_double) (subst (λ n. n < c.args.c * 10 ^ c.args.e) (sym less) more)

pub returns-then-e-lt-WHOLE_TENS : goal.returns-then-e-lt-WHOLE_TENS
returns-then-e-lt-WHOLE_TENS c =
    let whole : c.args.e + (6176 - c.args.e) ≡ 6176 = omega arith in
    turned (c.args.c * 2 ^ 1074) (c.args.s * 5 ^ (6176 - c.args.e) * 2 ^ (c.args.x + (6176 - c.args.e))) c.compare_fives.result c.reverse.result c.compare_fives.ensures c.reverse.ensures
    ∙ mixed_low c.args.c c.args.e (6176 - c.args.e) c.args.s c.args.x whole

pub returns-else-e-lt-WHOLE_TENS : goal.returns-else-e-lt-WHOLE_TENS
returns-else-e-lt-WHOLE_TENS c =
    let whole : 6176 + (c.args.e - 6176) ≡ c.args.e = omega arith in
    c.compare_fives-else-e-lt-WHOLE_TENS.ensures ∙ mixed_high c.args.c c.args.e (c.args.e - 6176) c.args.s c.args.x whole

use Rattle.std.proofs.Common.{◌≡◌, ◌<◌, ◌≤◌, ◌+◌, ◌-◌, ◌*◌, ◌^◌, ◌/◌, ◌%◌, ◌∙◌, sym, ap, subst, lt_of_lt_of_le, lit≤}
use Rattle.bson_order.specs.Wholes.{IsDoubleOf}
use Rattle.bson_order.proofs.DoubleLemmas.{lifted_high, lifted_low, lifted_size, no_double, shrunk_high, shrunk_low, shrunk_size, whole_size}
use Rattle.bson_order.proofs.doubles.bits_of.Goals as goal

pub overflow_mul-size : goal.overflow_mul-size
overflow_mul-size c =
    let high = lifted_high c.args.size c.top_of-top.result c.if-top-le52.true c.top_of-top.ensures.beyond in
    record { fits = subst (λ n. c.args.size * n < 2 ^ 64) (sym c.pow.ensures) (lt_of_lt_of_le high (lit≤ tt)) }

pub bits_with-requires-clause-first : goal.bits_with-requires-clause-first
bits_with-requires-clause-first c =
    subst (λ n. 2 ^ 52 ≤ c.args.size * n) (sym c.pow.ensures) (lifted_low c.args.size c.top_of-top.result c.if-top-le52.true c.top_of-top.ensures.first)

pub bits_with-requires-clause-last : goal.bits_with-requires-clause-last
bits_with-requires-clause-last c =
    subst (λ n. c.args.size * n < 2 ^ 53) (sym c.pow.ensures) (lifted_high c.args.size c.top_of-top.result c.if-top-le52.true c.top_of-top.ensures.beyond)

pub returns-then-top-le52 : goal.returns-then-top-le52
returns-then-top-le52 c =
    let top = c.top_of-top.result in
    let low = lifted_low c.args.size c.top_of-top.result c.if-top-le52.true c.top_of-top.ensures.first in
    let high = lifted_high c.args.size c.top_of-top.result c.if-top-le52.true c.top_of-top.ensures.beyond in
    subst (IsDoubleOf c.args.size) (sym (c.bits_with.ensures ∙ ap (λ n. (1023 + c.top_of-top.result) * 2 ^ 52 + (c.args.size * n - 2 ^ 52)) c.pow.ensures))
    (whole_size c.top_of-top.result (c.args.size * 2 ^ (52 - c.top_of-top.result)) c.args.size c.top_of-top.ensures.within low high (lifted_size c.args.size c.top_of-top.result c.if-top-le52.true))

pub bits_with-requires-then-size-unit-eq0-clause-first : goal.bits_with-requires-then-size-unit-eq0-clause-first
bits_with-requires-then-size-unit-eq0-clause-first c =
    subst (λ n. 2 ^ 52 ≤ c.args.size / n) (sym c.pow-unit.ensures) (shrunk_low c.args.size c.top_of-top.result c.if-top-le52.false c.top_of-top.ensures.first)

pub bits_with-requires-then-size-unit-eq0-clause-last : goal.bits_with-requires-then-size-unit-eq0-clause-last
bits_with-requires-then-size-unit-eq0-clause-last c =
    subst (λ n. c.args.size / n < 2 ^ 53) (sym c.pow-unit.ensures) (shrunk_high c.args.size c.top_of-top.result c.if-top-le52.false c.top_of-top.ensures.beyond)

pub returns-then-size-unit-eq0 : goal.returns-then-size-unit-eq0
returns-then-size-unit-eq0 c =
    let h = c.if-top-le52.false in
    let low = shrunk_low c.args.size c.top_of-top.result h c.top_of-top.ensures.first in
    let high = shrunk_high c.args.size c.top_of-top.result h c.top_of-top.ensures.beyond in
    let none : c.args.size % 2 ^ (c.top_of-top.result - 52) ≡ 0 = ap (λ n. c.args.size % n) (sym c.pow-unit.ensures) ∙ c.if-size-unit-eq0.true in
    subst (IsDoubleOf c.args.size) (sym (c.bits_with-then-size-unit-eq0.ensures ∙ ap (λ n. (1023 + c.top_of-top.result) * 2 ^ 52 + (c.args.size / n - 2 ^ 52)) c.pow-unit.ensures))
    (whole_size c.top_of-top.result (c.args.size / 2 ^ (c.top_of-top.result - 52)) c.args.size c.top_of-top.ensures.within low high (shrunk_size c.args.size c.top_of-top.result h none))

pub returns-else-size-unit-eq0 : goal.returns-else-size-unit-eq0
returns-else-size-unit-eq0 c =
    no_double c.args.size c.top_of-top.result c.ranges.size.fits c.if-top-le52.false c.top_of-top.ensures.first
    (λ e. c.if-size-unit-eq0.false (ap (λ n. c.args.size % n) c.pow-unit.ensures ∙ e))

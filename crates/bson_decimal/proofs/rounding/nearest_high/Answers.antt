use Rattle.std.proofs.Common.{◌+◌, ◌*◌, ◌/◌, ◌%◌, ◌∙◌, ap}
use Rattle.std.specs.Ordering.{match_ordering, nat_cmp, ordering_then}
use Rattle.bson_decimal.proofs.RoundLemmas.{nearest_of_high_power}
use Rattle.bson_decimal.proofs.rounding.nearest_high.Goals as goal

pub returns-clause-equal : goal.returns-clause-equal
returns-clause-equal c =
    let h = c.args.number.high in
    let p = c.power_of_ten-power.result in
    c.half_even.ensures.equal
    ∙ ap (λ o. h / p + match_ordering o 0 (h / p % 2) 1) (c.then.ensures ∙ ap (λ x. ordering_then x c.cmp-2.result) c.cmp.ensures ∙ ap (λ y. ordering_then (nat_cmp (2 * (h % p)) p) y) c.cmp-2.ensures)
    ∙ nearest_of_high_power h c.args.number.low c.args.k p c.requires.some c.power_of_ten-power.ensures.equal c.requires.wide.1

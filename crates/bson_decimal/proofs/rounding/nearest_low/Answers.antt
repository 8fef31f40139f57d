use Rattle.std.proofs.Common.{◌+◌, ◌*◌, ◌/◌, ◌%◌, ◌^◌, ◌∙◌, ap, arith}
use Rattle.std.specs.Ordering.{match_ordering}
use Rattle.bson_decimal.specs.Arithmetic.{nearest}
use Rattle.bson_decimal.proofs.RoundLemmas.{parts_of, under_power, high_room, quotient_room, nearest_of_low}
use Rattle.bson_decimal.proofs.rounding.nearest_low.Goals as goal

pub overflow_mul-number : goal.overflow_mul-number
overflow_mul-number c =
    let e = parts_of c.args.k c.power_of_ten-power.result c.power_of_ten-zeros.result c.requires.few c.power_of_ten-power.ensures.equal c.power_of_ten-zeros.ensures.equal in
    let less = under_power c.args.number.high c.args.k c.power_of_ten-power.result c.requires.room c.power_of_ten-power.ensures.equal in
    let room = high_room c.args.number.high c.power_of_ten-power.result c.power_of_ten-zeros.result e less in
    omega (arith, room)

pub overflow_add-number : goal.overflow_add-number
overflow_add-number c =
    let e = parts_of c.args.k c.power_of_ten-power.result c.power_of_ten-zeros.result c.requires.few c.power_of_ten-power.ensures.equal c.power_of_ten-zeros.ensures.equal in
    let less = under_power c.args.number.high c.args.k c.power_of_ten-power.result c.requires.room c.power_of_ten-power.ensures.equal in
    let room = quotient_room c.args.number.high c.args.number.low c.power_of_ten-power.result c.power_of_ten-zeros.result c.power_of_ten-power.ensures.some e less c.requires.wide.1 in
    omega (arith, room)

pub half_even-requires : goal.half_even-requires
half_even-requires c =
    let e = parts_of c.args.k c.power_of_ten-power.result c.power_of_ten-zeros.result c.requires.few c.power_of_ten-power.ensures.equal c.power_of_ten-zeros.ensures.equal in
    let less = under_power c.args.number.high c.args.k c.power_of_ten-power.result c.requires.room c.power_of_ten-power.ensures.equal in
    quotient_room c.args.number.high c.args.number.low c.power_of_ten-power.result c.power_of_ten-zeros.result c.power_of_ten-power.ensures.some e less c.requires.wide.1

pub returns-clause-equal : goal.returns-clause-equal
returns-clause-equal c =
    let e = parts_of c.args.k c.power_of_ten-power.result c.power_of_ten-zeros.result c.requires.few c.power_of_ten-power.ensures.equal c.power_of_ten-zeros.ensures.equal in
    c.half_even.ensures.equal
    ∙ ap (λ o. c.args.number.high * c.power_of_ten-zeros.result + c.args.number.low / c.power_of_ten-power.result + match_ordering o 0 ((c.args.number.high * c.power_of_ten-zeros.result + c.args.number.low / c.power_of_ten-power.result) % 2) 1) c.cmp.ensures
    ∙ nearest_of_low c.args.number.high c.args.number.low c.power_of_ten-power.result c.power_of_ten-zeros.result c.power_of_ten-power.ensures.some e
    ∙ ap (nearest (c.args.number.high * 10 ^ 34 + c.args.number.low)) c.power_of_ten-power.ensures.equal

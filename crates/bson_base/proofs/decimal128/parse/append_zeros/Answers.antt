use Rattle.std.proofs.Common.{◌≡◌, ◌+◌, ◌≤◌, ◌∙◌, nat_le, true, length, replicate, Ok, ap, arith}
use Rattle.bson_base.specs.Decimal.{finite, value_after}
use Rattle.bson_base.specs.DecimalParts.{digits_of}
use Rattle.bson_base.proofs.DecimalLemmas.{value_after-zeros}
use Rattle.bson_base.proofs.decimal128.parse.append_zeros.Goals as goal

pub times_ten-coefficient-requires-clause-low : goal.times_ten-coefficient-requires-clause-low
times_ten-coefficient-requires-clause-low c = rw c.len-then-len-zeros-le-DIGITS.ensures c.value.ensures.small

pub returns-then-len-zeros-le-DIGITS-clause-value : goal.returns-then-len-zeros-le-DIGITS-clause-value
returns-then-len-zeros-le-DIGITS-clause-value c =
    let ds = digits_of c.args.digits in
    let short : length ds + c.args.zeros ≤ 34 = omega arith in
    let t : nat_le (length ds + c.args.zeros) 34 ≡ true = grind arith in
    let is = c.times_ten-coefficient.ensures.value ∙ ap (λ n. value_after n (replicate c.args.zeros 48)) c.value.ensures.value ∙ value_after-zeros ds c.args.zeros in
    rw t (ap Ok (c.finite.ensures.value ∙ ap (λ n. finite c.args.negative n 12287) is))

use Rattle.std.proofs.Common.{◌-◌, ◌∙◌, ap, arith}
use Rattle.bson_decimal.specs.Arithmetic.{decimal_of}
use Rattle.bson_decimal.proofs.QuotientLemmas.{quotient_of}
use Rattle.bson_decimal.proofs.quotients.quotient.Goals as goal

pub returns-clause-equal : goal.returns-clause-equal
returns-clause-equal c =
    let a = c.args in
    let v = c.long_division-whole.result in
    let e = c.long_division-whole.ensures in
    c.decimal_of.ensures.equal
    ∙ ap (λ n. decimal_of a.negative n (a.exponent - v.zeros)) c.wide_of.ensures.equal
    ∙ quotient_of a.negative a.c a.d v.whole v.rest a.exponent v.zeros c.sticky.result (omega arith) e.whole e.rest e.few c.requires.least e.digits e.exact c.sticky.ensures.equal

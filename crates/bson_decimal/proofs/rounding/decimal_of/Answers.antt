use Rattle.std.proofs.Common.{◌^◌, ◌<◌, ◌∙◌, arith, subst, sym}
use Rattle.bson_decimal.proofs.RoundLemmas.{enough, decimal_first, decimal_next}
use Rattle.bson_decimal.proofs.rounding.decimal_of.Goals as goal

pub clamp-requires-else-coefficient-lt-LIMIT : goal.clamp-requires-else-coefficient-lt-LIMIT
clamp-requires-else-coefficient-lt-LIMIT c =
    let less = enough c.args.number.high c.args.number.low c.cut_of-cut.result c.cut_of-cut.ensures.below c.requires.wide.1 in
    subst (λ n. n < 10 ^ 34) (sym c.nearest.ensures.equal) less

pub returns-then-coefficient-lt-LIMIT-clause-equal : goal.returns-then-coefficient-lt-LIMIT-clause-equal
returns-then-coefficient-lt-LIMIT-clause-equal c =
    c.clamp.ensures.equal
    ∙ decimal_first c.args.negative c.args.number.high c.args.number.low c.args.exponent c.cut_of-cut.result c.nearest-coefficient.result
    c.cut_of-cut.ensures.enough c.cut_of-cut.ensures.few c.cut_of-cut.ensures.least c.nearest-coefficient.ensures.equal (omega arith)

pub returns-else-coefficient-lt-LIMIT-clause-equal : goal.returns-else-coefficient-lt-LIMIT-clause-equal
returns-else-coefficient-lt-LIMIT-clause-equal c =
    c.clamp-else-coefficient-lt-LIMIT.ensures.equal
    ∙ decimal_next c.args.negative c.args.number.high c.args.number.low c.args.exponent c.cut_of-cut.result c.nearest-coefficient.result c.nearest.result c.requires.wide.1
    c.cut_of-cut.ensures.enough c.cut_of-cut.ensures.few c.cut_of-cut.ensures.least c.cut_of-cut.ensures.below c.nearest-coefficient.ensures.equal (omega arith) c.nearest.ensures.equal

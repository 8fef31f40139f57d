use Rattle.std.proofs.Common.{◌+◌, ◌-◌, arith}
use Rattle.bson_decimal.proofs.RoundLemmas.{power_less, power_more}
use Rattle.bson_decimal.proofs.rounding.cut_of.Goals as goal

pub returns-then-needed-least-clause-below : goal.returns-then-needed-least-clause-below
returns-then-needed-least-clause-below c = power_more c.args.high c.digits-needed.result c.least_cut-least.result c.digits-needed.ensures.below (omega arith)

pub returns-else-needed-least-clause-least : goal.returns-else-needed-least-clause-least
returns-else-needed-least-clause-least c = λ i lt. power_less c.args.high (c.digits-needed.result - 1) (12352 - c.args.exponent + i) (c.digits-needed.ensures.least (omega arith)) (omega arith)

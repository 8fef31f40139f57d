use Rattle.std.proofs.Common.{◌+◌, ◌*◌, ◌^◌, arith}
use Rattle.bson_decimal.proofs.RoundLemmas.{nearest_nothing}
use Rattle.bson_decimal.proofs.rounding.nearest.Goals as goal

pub returns-else-k-le68-clause-equal : goal.returns-else-k-le68-clause-equal
returns-else-k-le68-clause-equal c =
    nearest_nothing (c.args.number.high * 10 ^ 34 + c.args.number.low) c.args.k (omega (arith, c.requires.wide)) (omega arith)

use Rattle.std.proofs.Common.{◌<◌, arith}
use Rattle.bson_decimal.proofs.RoundLemmas.{fold_far}
use Rattle.bson_decimal.proofs.rounding.fold_down_far.Goals as goal

pub returns-then-k-gt34-clause-equal : goal.returns-then-k-gt34-clause-equal
returns-then-k-gt34-clause-equal c = let some : 0 < c.args.coefficient = omega arith in fold_far c.args.negative c.args.coefficient c.args.k some (omega arith)

use Rattle.std.proofs.Common.{arith}
use Rattle.bson_decimal.proofs.RemainderLemmas.{remainder_first, remainder_second}
use Rattle.bson_decimal.proofs.remainders.finite_remainder.Goals as goal

pub returns-then-f-e-clause-equal : goal.returns-then-f-e-clause-equal
returns-then-f-e-clause-equal c = remainder_first c.args.negative c.args.c c.args.e c.args.d c.args.f c.rest_with_zeros.result (omega arith) (omega arith) c.rest_with_zeros.ensures.equal

pub returns-else-f-e-clause-equal : goal.returns-else-f-e-clause-equal
returns-else-f-e-clause-equal c = remainder_second c.args.negative c.args.c c.args.e c.args.d c.args.f c.rest_by_zeros.result (omega arith) (omega arith) c.rest_by_zeros.ensures.equal

use Rattle.bson_decimal.proofs.RemainderLemmas.{rest_far}
use Rattle.bson_decimal.proofs.remainders.rest_by_zeros.Goals as goal

pub returns-then-k-gt34-clause-equal : goal.returns-then-k-gt34-clause-equal
returns-then-k-gt34-clause-equal c = rest_far c.args.c c.args.d c.args.k c.requires.first c.requires.some c.if-k-gt34.true

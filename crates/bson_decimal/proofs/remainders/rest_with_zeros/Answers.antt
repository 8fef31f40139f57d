use Rattle.bson_decimal.proofs.QuotientLemmas.{next_rest}
use Rattle.bson_decimal.proofs.RemainderLemmas.{rest_begin}
use Rattle.bson_decimal.proofs.remainders.rest_with_zeros.Goals as goal

pub loop-zeros-init : goal.loop-zeros-init
loop-zeros-init c = rest_begin c.args.c c.args.d

pub loop-zeros-preserved : goal.loop-zeros-preserved
loop-zeros-preserved c = next_rest c.args.c c.args.d c.loop-zeros.rest c.loop-zeros._zeros c.requires.some c.loop-zeros.invariant

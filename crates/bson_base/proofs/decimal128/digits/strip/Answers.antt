use Rattle.std.proofs.Common.{arith}
use Rattle.bson_base.proofs.DecimalLemmas.{all_stripped}
use Rattle.bson_base.proofs.decimal128.digits.strip.Goals as goal

pub returns : goal.returns
returns c = all_stripped c.args.text.now c.loop-i.i (omega arith) c.loop-i.invariant

use Rattle.std.proofs.Common.{arith}
use Rattle.bson_decimal.proofs.SumLemmas.{sticky_far, tens_some}
use Rattle.bson_decimal.proofs.sticky.sticky_quotient.Goals as goal

pub sticky_quotient_by-requires-clause-some : goal.sticky_quotient_by-requires-clause-some
sticky_quotient_by-requires-clause-some c = tens_some c.args.m c.power_of_ten.result c.requires.digits c.power_of_ten.ensures.equal

pub returns-else-d-eq0-clause-equal : goal.returns-else-d-eq0-clause-equal
returns-else-d-eq0-clause-equal c = sticky_far c.args.d c.args.m (omega arith) c.requires.second (omega arith)

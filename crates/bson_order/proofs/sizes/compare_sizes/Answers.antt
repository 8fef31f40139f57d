use Rattle.bson_order.proofs.SizeLemmas.{tens_less, twos_less}
use Rattle.bson_order.proofs.sizes.compare_sizes.Goals as goal

pub returns-in-Tens-other : goal.returns-in-Tens-other
returns-in-Tens-other c = (tens_less c.args.other c.args.size c.in-Tens-other.field-0 c.in-Tens-other.field-1 c.in-Infinite.is c.in-Tens-other.is c.requires.second).1

pub returns-in-Twos-other : goal.returns-in-Twos-other
returns-in-Twos-other c = (twos_less c.args.other c.args.size c.in-Twos-other.field-0 c.in-Twos-other.field-1 c.in-Infinite.is c.in-Twos-other.is c.requires.second).1

pub returns-in-Infinite-other-2 : goal.returns-in-Infinite-other-2
returns-in-Infinite-other-2 c = (tens_less c.args.size c.args.other c.in-Tens.c c.in-Tens.e c.in-Infinite-other-2.is c.in-Tens.is c.requires.first).0

pub returns-in-Infinite-other-3 : goal.returns-in-Infinite-other-3
returns-in-Infinite-other-3 c = (twos_less c.args.size c.args.other c.in-Twos.s c.in-Twos.x c.in-Infinite-other-3.is c.in-Twos.is c.requires.first).0

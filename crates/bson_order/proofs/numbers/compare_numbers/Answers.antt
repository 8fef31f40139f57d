use Rattle.bson_order.proofs.SizeLemmas.{nan_less}
use Rattle.bson_order.proofs.numbers.compare_numbers.Goals as goal

pub returns-in-Sized-other : goal.returns-in-Sized-other
returns-in-Sized-other c = (nan_less c.args.number c.args.other c.in-Sized-other.field-0 c.in-Sized-other.field-1 c.in-NotANumber.is c.in-Sized-other.is c.requires.second).0

pub returns-in-NotANumber-other-2 : goal.returns-in-NotANumber-other-2
returns-in-NotANumber-other-2 c = (nan_less c.args.other c.args.number c.in-Sized.negative c.in-Sized.size c.in-NotANumber-other-2.is c.in-Sized.is c.requires.first).1

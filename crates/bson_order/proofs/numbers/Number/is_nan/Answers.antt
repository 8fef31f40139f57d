use Rattle.bson_order.proofs.SizeLemmas.{sized_told}
use Rattle.bson_order.proofs.numbers.Number.is_nan.Goals as goal

pub returns-in-Sized : goal.returns-in-Sized
returns-in-Sized c = sized_told c.args.self c.in-Sized.field-0 c.in-Sized.field-1 c.in-Sized.is c.requires

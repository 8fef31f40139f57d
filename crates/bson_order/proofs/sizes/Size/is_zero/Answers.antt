use Rattle.bson_order.proofs.SizeLemmas.{infinite_told, tens_told, twos_told}
use Rattle.bson_order.proofs.sizes.Size.is_zero.Goals as goal

pub returns-in-Infinite : goal.returns-in-Infinite
returns-in-Infinite c = infinite_told c.args.self c.in-Infinite.is

pub returns-in-Tens : goal.returns-in-Tens
returns-in-Tens c = tens_told c.args.self c.in-Tens.coefficient c.in-Tens.field-1 c.in-Tens.is

pub returns-in-Twos : goal.returns-in-Twos
returns-in-Twos c = twos_told c.args.self c.in-Twos.significand c.in-Twos.field-1 c.in-Twos.is

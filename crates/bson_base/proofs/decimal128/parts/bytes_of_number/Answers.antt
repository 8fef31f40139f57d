use Rattle.std.proofs.Common.{◌∙◌, sym, arith}
use Rattle.bson_base.specs.Decimal.{sixteen_bytes}
use Rattle.bson_base.proofs.DecimalBitsLemmas.{bytes_of-low_first}
use Rattle.bson_base.proofs.decimal128.parts.bytes_of_number.Goals as goal

pub returns : goal.returns
unfolding sixteen_bytes
returns c = c.to_le_bytes.ensures ∙ sym (bytes_of-low_first 16 0 c.args.number c.args.number (omega arith))

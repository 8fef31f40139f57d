use Rattle.bson_base.proofs.DecimalBitsLemmas.{unpack_is}
use Rattle.bson_base.proofs.laws.decimals.unpacked_decimals_can_be_packed.Goals as goal

pub returns : goal.returns
returns c = unpack_is

use Rattle.bson_base.proofs.DecimalBitsLemmas.{unpack-pack}
use Rattle.bson_base.proofs.laws.decimals.packed_decimals_come_back.Goals as goal

pub returns : goal.returns
returns c = unpack-pack

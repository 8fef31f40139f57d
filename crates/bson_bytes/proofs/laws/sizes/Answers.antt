use Rattle.bson_bytes.proofs.LengthLemmas.{encode_length}
use Rattle.bson_bytes.proofs.laws.sizes.Goals as goal

pub returns : goal.returns
returns c = encode_length

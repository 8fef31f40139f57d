use Rattle.bson_bytes.proofs.ZeroLemmas.{no_zero_told}
use Rattle.bson_bytes.proofs.put.has_no_zero.Goals as goal

pub returns : goal.returns
returns c = rw c.contains.ensures.value (no_zero_told c.args.bytes.now)

use Rattle.bson_bytes.proofs.OneTreeLemmas.{one_meaning}
use Rattle.bson_bytes.proofs.laws.one_meaning.Goals as goal

pub returns : goal.returns
returns c = one_meaning

use Rattle.bson_meaning.proofs.NowLemmas.{equal_same}
use Rattle.bson_meaning.proofs.laws.equal_is_same.Goals as goal

pub returns : goal.returns
returns c = equal_same

use Rattle.bson_meaning.proofs.NowLemmas.{key_law}
use Rattle.bson_meaning.proofs.laws.keys_tell.Goals as goal

pub returns : goal.returns
returns c = key_law

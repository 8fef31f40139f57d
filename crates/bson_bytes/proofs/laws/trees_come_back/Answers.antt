use Rattle.bson_bytes.proofs.SettledLemmas.{comes_back}
use Rattle.bson_bytes.proofs.laws.trees_come_back.Goals as goal

pub returns : goal.returns
returns c = comes_back

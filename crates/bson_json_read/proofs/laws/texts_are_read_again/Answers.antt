use Rattle.bson_json_read.proofs.DoubleLemmas.{read_again}
use Rattle.bson_json_read.proofs.laws.texts_are_read_again.Goals as goal

pub returns : goal.returns
returns c = read_again

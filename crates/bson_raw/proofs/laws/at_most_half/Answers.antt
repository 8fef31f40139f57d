use Rattle.bson_raw.proofs.WalkLemmas.{document_walk_len}
use Rattle.bson_raw.proofs.laws.at_most_half.Goals as goal

pub returns : goal.returns
returns c = document_walk_len

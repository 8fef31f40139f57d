use Rattle.store_model.proofs.DistanceLemmas.{document_short}
use Rattle.store_model.proofs.laws.paths_are_short.Goals as goal

pub returns : goal.returns
returns c = document_short

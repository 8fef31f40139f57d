use Rattle.store_model.proofs.RestoreLemmas.{goes_in}
use Rattle.store_model.proofs.laws.documents_go_in.Goals as goal

pub returns : goal.returns
returns c = goes_in

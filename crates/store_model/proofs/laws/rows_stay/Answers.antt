use Rattle.store_model.proofs.UnmovedLemmas.{unmoved}
use Rattle.store_model.proofs.laws.rows_stay.Goals as goal

pub returns : goal.returns
returns c = unmoved

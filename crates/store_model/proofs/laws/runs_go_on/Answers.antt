use Rattle.store_model.proofs.TableRunLemmas.{one_more}
use Rattle.store_model.proofs.laws.runs_go_on.Goals as goal

pub returns : goal.returns
returns c = one_more

use Rattle.store_model.proofs.FunctionLemmas.{one_step}
use Rattle.store_model.proofs.laws.one_answer.Goals as goal

pub returns : goal.returns
returns c = one_step

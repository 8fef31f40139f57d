use Rattle.store_model.proofs.FunctionLemmas.{one_collection}
use Rattle.store_model.proofs.laws.one_collection.Goals as goal

pub returns : goal.returns
returns c = one_collection

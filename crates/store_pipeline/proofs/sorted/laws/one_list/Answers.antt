use Rattle.store_pipeline.proofs.SortLemmas.{one_list, some_list}
use Rattle.store_pipeline.proofs.sorted.laws.one_list.Goals as goal

pub returns-clause-some : goal.returns-clause-some
returns-clause-some c = some_list

pub returns-clause-one : goal.returns-clause-one
returns-clause-one c = one_list

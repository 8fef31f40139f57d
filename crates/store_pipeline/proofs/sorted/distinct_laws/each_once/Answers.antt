use Rattle.bson_order.proofs.MeaningLemmas.{total_order}
use Rattle.bson_order.specs.Order.{order}
use Rattle.store_pipeline.proofs.OneLemmas.{one_once, some_once}
use Rattle.store_pipeline.proofs.sorted.distinct_laws.each_once.Goals as goal

pub returns-clause-some : goal.returns-clause-some
returns-clause-some c = some_once order total_order

pub returns-clause-one : goal.returns-clause-one
returns-clause-one c = one_once order total_order

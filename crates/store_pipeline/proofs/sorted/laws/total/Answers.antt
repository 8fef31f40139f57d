use Rattle.store_pipeline.proofs.KeyLemmas.{order_total}
use Rattle.store_pipeline.proofs.sorted.laws.total.Goals as goal

pub returns : goal.returns
returns c = order_total

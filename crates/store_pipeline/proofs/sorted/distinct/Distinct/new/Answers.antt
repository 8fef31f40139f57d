use Rattle.store_pipeline.proofs.TakeLemmas.{nothing_held}
use Rattle.store_pipeline.proofs.sorted.distinct.Distinct.new.Goals as goal

pub returns-clause-holds : goal.returns-clause-holds
returns-clause-holds c = nothing_held _ c.new.ensures.items

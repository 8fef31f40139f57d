use Rattle.store_pipeline.proofs.SortLemmas.{part_in_first}
use Rattle.store_pipeline.proofs.sorted.laws.part_of_first.Goals as goal

pub returns : goal.returns
returns c = part_in_first

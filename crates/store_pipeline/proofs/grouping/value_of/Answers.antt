use Rattle.store_pipeline.proofs.FieldLemmas.{value_returned}
use Rattle.store_pipeline.proofs.grouping.value_of.Goals as goal
use Rattle.store_pipeline.specs.Groups.{values_for}

pub returns : goal.returns
returns c = λ ds are. value_returned c.args.field.now.accumulator c.in_ok-values.values.items (values_for c.args.field.now ds) c.accumulated.result (c.in_ok-values.ensures ds are) c.accumulated.ensures

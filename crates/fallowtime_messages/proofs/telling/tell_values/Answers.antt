use Rattle.std.proofs.Common.{map}
use Rattle.bson_model.specs.View.{view}
use Rattle.store_pipeline.specs.Counted.{value_in}
use Rattle.fallowtime_messages.proofs.OutcomeLemmas.{values_told}
use Rattle.fallowtime_messages.proofs.telling.tell_values.Goals as goal

pub returns-in_ok-items-in-Different : goal.returns-in_ok-items-in-Different
returns-in_ok-items-in-Different c =
    rw c.in-Different.is (values_told c.values.result (map view c.in_ok-items-in-Different.items.items) (map value_in c.args.counted.now.items) (rw c.as_slice.ensures.value at c.in_ok-items-in-Different.ensures) c.values.ensures)

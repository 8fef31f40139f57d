use Rattle.bson_model.specs.View.{view}
use Rattle.fallowtime_messages.proofs.OutcomeLemmas.{changed_told}
use Rattle.fallowtime_messages.proofs.telling.tell_changed.Goals as goal

pub returns : goal.returns
returns c = changed_told c.modified.result c.args.removes c.args.body.now (view c.in_ok-value.value) (rw c.as_slice.ensures.value at c.in_ok-value.ensures) c.modified.ensures

use Rattle.fallowtime_messages.specs.Waiting.{waiting}
use Rattle.fallowtime_messages.proofs.BatchLemmas.{told_by_way}
use Rattle.fallowtime_messages.proofs.batches.tell_by.Goals as goal

pub returns-in-Found : goal.returns-in-Found
returns-in-Found c = rw c.in-Found.is (rw c.as_str.ensures.value at c.tell_found.ensures)

pub returns-in_default : goal.returns-in_default
returns-in_default c = told_by_way c.args.way.now c.args.outcome.now (waiting c.args.cursors.now) c.tell.result c.tell.ensures

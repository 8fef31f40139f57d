use Rattle.fallowtime_requests.proofs.StageLemmas.{empty_object}
use Rattle.fallowtime_requests.proofs.grouping.is_empty_object.Goals as goal

pub returns-in-Object : goal.returns-in-Object
returns-in-Object c = empty_object c.args.value.now c.in-Object.members c.as_slice.result.now c.is_empty.result c.in-Object.is c.as_slice.ensures.value c.is_empty.ensures

use Rattle.json.specs.Value.{value_view}
use Rattle.fallowtime_requests.proofs.GroupLemmas.{grouping_seen}
use Rattle.fallowtime_requests.proofs.grouping.grouping_in.Goals as goal

pub returns-in-Some : goal.returns-in-Some
returns-in-Some c =
    grouping_seen c.args.value.now c.in-Object.members c.as_slice.result.now c.in-Object.is c.as_slice.ensures.value (value_view c.in-Some.id.now) c.in-Some.ensures c.grouping_by.result c.grouping_by.ensures

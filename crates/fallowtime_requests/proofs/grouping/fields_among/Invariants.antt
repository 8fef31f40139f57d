use Rattle.fallowtime_requests.proofs.GroupLemmas.{FieldsSoFar}
use Rattle.fallowtime_requests.proofs.grouping.fields_among.Given as goal

abbrev pub invariant-loop-name : goal.invariant-loop-name
invariant-loop-name l = FieldsSoFar l.members l.fields.items l.name-index

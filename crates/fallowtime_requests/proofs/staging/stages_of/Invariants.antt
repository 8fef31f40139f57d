use Rattle.fallowtime_requests.proofs.StageLemmas.{StagesSoFar}
use Rattle.fallowtime_requests.proofs.staging.stages_of.Given as goal

abbrev pub invariant-loop-item : goal.invariant-loop-item
invariant-loop-item l = StagesSoFar l.items l.stages.items l.item-index

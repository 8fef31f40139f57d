use Rattle.fallowtime_requests.proofs.StreamLemmas.{SoFar}
use Rattle.fallowtime_requests.proofs.stream.stream_of.Given as goal

abbrev pub invariant-loop-index : goal.invariant-loop-index
invariant-loop-index l = SoFar l.items l.fn.maker l.maker l.stream.items l.index

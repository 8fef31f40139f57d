use Rattle.std.proofs.Common.{◌≡◌, ◌+◌, ◌++◌, length}
use Rattle.fallowtime_messages.specs.Waiting.{bodies_of, taken}
use Rattle.fallowtime_messages.proofs.batch.batch_of.Given as goal

abbrev pub invariant-loop-wanted : goal.invariant-loop-wanted
invariant-loop-wanted l =
    (bodies_of l.fn.rest.items ≡ bodies_of l.batch.items ++ bodies_of l.rest.items)
    × (taken l.size 16777216 (bodies_of l.fn.rest.items) ≡ length (bodies_of l.batch.items) + taken l.wanted l.room (bodies_of l.rest.items))

abbrev pub decreases-loop-wanted : goal.decreases-loop-wanted
decreases-loop-wanted l = l.wanted

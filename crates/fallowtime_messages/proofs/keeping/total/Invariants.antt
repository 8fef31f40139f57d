use Rattle.std.proofs.Common.{◌≡◌, ◌+◌, drop}
use Rattle.fallowtime_messages.specs.Waiting.{bodies_of, total}
use Rattle.fallowtime_messages.proofs.keeping.total.Given as goal

abbrev pub invariant-loop-body : goal.invariant-loop-body
invariant-loop-body l = l.sum + total (bodies_of (drop l.body-index l.bodies)) ≡ total (bodies_of l.bodies)

use Rattle.fallowtime_commands.proofs.TextLemmas.{SoFar}
use Rattle.fallowtime_commands.proofs.session.bodies.push_bodies.Given as goal

abbrev pub invariant-loop-index : goal.invariant-loop-index
invariant-loop-index l = SoFar l.bodies l.fn.line.items l.line.items l.index

use Rattle.fallowtime_commands.proofs.ValueLemmas.{ValuesSoFar}
use Rattle.fallowtime_commands.proofs.session.answers.push_values.Given as goal

abbrev pub invariant-loop-index : goal.invariant-loop-index
invariant-loop-index l = ValuesSoFar l.counts l.values l.fn.line.items l.line.items l.index

use Rattle.fallowtime_commands.proofs.ListAnswerLemmas.{SoFar}
use Rattle.fallowtime_commands.proofs.session.list_answers.push_answers.Given as goal

abbrev pub invariant-loop-index : goal.invariant-loop-index
invariant-loop-index l = SoFar l.answers l.fn.line.items l.line.items l.index

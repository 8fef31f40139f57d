use Rattle.fallowtime_commands.proofs.ListLemmas.{SoFar}
use Rattle.fallowtime_commands.proofs.session.lists.push_questions.Given as goal

abbrev pub invariant-loop-index : goal.invariant-loop-index
invariant-loop-index l = SoFar l.requests l.fn.maker l.maker l.fn.questions.items l.questions.items l.index

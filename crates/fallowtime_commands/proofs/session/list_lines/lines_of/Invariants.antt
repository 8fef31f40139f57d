use Rattle.fallowtime_commands.proofs.ListLineLemmas.{SoFar}
use Rattle.fallowtime_commands.proofs.session.list_lines.lines_of.Given as goal

abbrev pub invariant-loop-answer : goal.invariant-loop-answer
invariant-loop-answer l = SoFar l.answers l.lines.items l.answer-index

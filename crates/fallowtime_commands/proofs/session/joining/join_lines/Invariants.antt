use Rattle.fallowtime_commands.proofs.JoinLemmas.{SoFar}
use Rattle.fallowtime_commands.proofs.session.joining.join_lines.Given as goal

abbrev pub invariant-loop-before : goal.invariant-loop-before
invariant-loop-before l = SoFar l.input l.rest l.joined l.before

use Rattle.std.proofs.Common.{arith}
use Rattle.fallowtime_commands.proofs.CountLemmas.{no_parts}
use Rattle.fallowtime_commands.proofs.session.turns.do_among.Goals as goal
use Rattle.fallowtime_commands.proofs.session.turns.do_among.Goals.{in_default-via-then-members-lt2, in_default-via-else-members-lt2+else-members-lt3}

pub returns-in_default : goal.returns-in_default
returns-in_default c =
    no_parts c.args.members.now (λ e. elim c.in_default.branch [ in_default-via-then-members-lt2 w ↦ grind arith | in_default-via-else-members-lt2+else-members-lt3 w ↦ grind arith ])

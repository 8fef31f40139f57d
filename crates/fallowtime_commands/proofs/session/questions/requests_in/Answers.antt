use Rattle.std.proofs.Common.{arith}
use Rattle.fallowtime_commands.proofs.ListLemmas.{no_single}
use Rattle.fallowtime_commands.proofs.session.questions.requests_in.Goals as goal
use Rattle.fallowtime_commands.proofs.session.questions.requests_in.Goals.{in_default-via-then-rest-lt1, in_default-via-else-rest-lt1+else-rest-lt2}

pub returns-in_default : goal.returns-in_default
returns-in_default c = no_single c.args.rest.now (λ e. elim c.in_default.branch [ in_default-via-then-rest-lt1 w ↦ grind arith | in_default-via-else-rest-lt1+else-rest-lt2 w ↦ grind arith ])

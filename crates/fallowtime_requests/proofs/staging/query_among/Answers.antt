use Rattle.std.proofs.Common.{arith}
use Rattle.fallowtime_requests.proofs.StageLemmas.{no_match}
use Rattle.fallowtime_requests.proofs.staging.query_among.Goals.{in_default-via-then-members-lt1, in_default-via-else-members-lt1+else-members-lt2}
use Rattle.fallowtime_requests.proofs.staging.query_among.Goals as goal

pub returns-in_default : goal.returns-in_default
returns-in_default c = no_match c.args.members.now (λ e. elim c.in_default.branch [ in_default-via-then-members-lt1 w ↦ grind arith | in_default-via-else-members-lt1+else-members-lt2 w ↦ grind arith ])

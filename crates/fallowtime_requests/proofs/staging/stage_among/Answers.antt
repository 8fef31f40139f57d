use Rattle.std.proofs.Common.{arith}
use Rattle.fallowtime_requests.proofs.StageLemmas.{no_stage}
use Rattle.fallowtime_requests.proofs.staging.stage_among.Goals.{in_default-via-then-members-lt1, in_default-via-else-members-lt1+else-members-lt2}
use Rattle.fallowtime_requests.proofs.staging.stage_among.Goals as goal

pub returns-in_default : goal.returns-in_default
returns-in_default c = no_stage c.args.members.now (λ e. elim c.in_default.branch [ in_default-via-then-members-lt1 w ↦ grind arith | in_default-via-else-members-lt1+else-members-lt2 w ↦ grind arith ])

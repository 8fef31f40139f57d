use Rattle.std.proofs.Common.{arith, inr, refl}
use Rattle.std.specs.Prelude.{MatchResult}
use Rattle.store_pipeline.specs.declared.stage.Accumulator.{Accumulator}
use Rattle.store_pipeline.specs.declared.stage.Operand.{Operand}
use Rattle.fallowtime_requests.specs.Reading.{StopsStages}
use Rattle.fallowtime_requests.specs.Staging.{IsAccumulation}
use Rattle.fallowtime_requests.proofs.StageLemmas.{no_accumulation, one_member}
use Rattle.fallowtime_requests.proofs.grouping.accumulation_among.Goals.{in_default-via-then-members-lt1, in_default-via-else-members-lt1+else-members-lt2}
use Rattle.fallowtime_requests.proofs.grouping.accumulation_among.Goals as goal

pub returns-in-len1 : goal.returns-in-len1
returns-in-len1 c =
    one_member (λ j. MatchResult c.accumulation_of.result (λ a. IsAccumulation j a.accumulator a.operand) (StopsStages ((a : Accumulator) (o : Operand) → IsAccumulation j a o → ⊥))) c.args.members.now
    c.index-members-0.result c.index-members-0-then-members-lt2.result c.in-len1.len_at_least c.in-len1.len_below c.accumulation_of.ensures

pub returns-in_default : goal.returns-in_default
returns-in_default c = inr (no_accumulation c.args.members.now (λ e. elim c.in_default.branch [ in_default-via-then-members-lt1 w ↦ grind arith | in_default-via-else-members-lt1+else-members-lt2 w ↦ grind arith ]), refl)

use Rattle.std.proofs.Common.{sym, subst}
use Rattle.std.specs.Prelude.{MatchResult}
use Rattle.store_pipeline.specs.declared.stage.Accumulator.{Accumulator}
use Rattle.store_pipeline.specs.declared.stage.Operand.{Operand}
use Rattle.fallowtime_requests.specs.Reading.{StopsStages}
use Rattle.fallowtime_requests.specs.Staging.{IsAccumulation}
use Rattle.fallowtime_requests.proofs.OptionLemmas.{object_seen}
use Rattle.fallowtime_requests.proofs.grouping.accumulation_in.Goals as goal

pub returns-in-Object : goal.returns-in-Object
returns-in-Object c =
    let seen = object_seen c.args.value.now c.in-Object.members c.as_slice.result.now c.in-Object.is c.as_slice.ensures.value in
    subst (λ j. MatchResult c.accumulation_among.result (λ a. IsAccumulation j a.accumulator a.operand) (StopsStages ((a : Accumulator) (o : Operand) → IsAccumulation j a o → ⊥))) (sym seen) c.accumulation_among.ensures

use Rattle.std.proofs.Common.{sym, subst}
use Rattle.std.specs.Prelude.{MatchResult}
use Rattle.fallowtime_requests.specs.Reading.{StopsStage}
use Rattle.fallowtime_requests.specs.Staging.{IsStage}
use Rattle.fallowtime_requests.proofs.OptionLemmas.{object_seen}
use Rattle.fallowtime_requests.proofs.staging.stage_in.Goals as goal

pub returns-in-Object : goal.returns-in-Object
returns-in-Object c =
    let seen = object_seen c.args.value.now c.in-Object.members c.as_slice.result.now c.in-Object.is c.as_slice.ensures.value in
    subst (λ j. MatchResult c.stage_among.result (IsStage j) (StopsStage j)) (sym seen) c.stage_among.ensures

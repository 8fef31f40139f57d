use Rattle.std.proofs.Common.{sym, subst}
use Rattle.std.specs.Prelude.{MatchResult}
use Rattle.store_pipeline.specs.declared.stage.Stage.{Stage}
use Rattle.fallowtime_requests.specs.Reading.{StopsStages}
use Rattle.fallowtime_requests.specs.Staging.{IsNamed}
use Rattle.fallowtime_requests.specs.declared.staging.StageName.TheVariants as name
use Rattle.fallowtime_requests.proofs.StageLemmas.{text_seen}
use Rattle.fallowtime_requests.proofs.staging.count_of_text.Goals as goal

pub returns-in-String : goal.returns-in-String
returns-in-String c =
    let seen = text_seen c.args.text.now c.in-String.name c.in-String.is in
    subst (λ j. MatchResult c.count_under.result (IsNamed name.Count j) (StopsStages ((s : Stage) → IsNamed name.Count j s → ⊥))) (sym seen) c.count_under.ensures

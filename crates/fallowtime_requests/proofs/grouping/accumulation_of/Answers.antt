use Rattle.std.proofs.Common.{◌≡◌, codes, sym, subst, ◌∙◌}
use Rattle.std.specs.Prelude.{MatchResult}
use Rattle.std.proofs.lemmas.Result.{err_from_is_err_and}
use Rattle.std.proofs.lemmas.Slice.Eq.{bytes_eq-Decides}
use Rattle.json.specs.Value.{value_view}
use Rattle.store_pipeline.specs.declared.stage.Accumulator.{Accumulator}
use Rattle.store_pipeline.specs.declared.stage.Operand.{Operand}
use Rattle.fallowtime_requests.specs.Reading.{StopsStages}
use Rattle.fallowtime_requests.specs.Staging.{IsAccumulated}
use Rattle.fallowtime_requests.proofs.OperandLemmas.{differs, no_accumulated, so_stops}
use Rattle.fallowtime_requests.proofs.grouping.accumulation_of.Goals as goal

pub returns-then-eq : goal.returns-then-eq
returns-then-eq c =
    let is : c.args.name.now ≡ codes "$count" = (bytes_eq-Decides c.args.name.now (codes "$count")).0 (sym c.eq.ensures ∙ c.if-eq.true) in
    subst (λ t. MatchResult c.counting.result (λ a. IsAccumulated t (value_view c.args.value.now) a.accumulator a.operand) (StopsStages ((a : Accumulator) (o : Operand) → IsAccumulated t (value_view c.args.value.now) a o → ⊥))) (sym is)
    c.counting.ensures

pub returns-in_err-operand-in-Some : goal.returns-in_err-operand-in-Some
returns-in_err-operand-in-Some c =
    let p = err_from_is_err_and c.from_residual.result c.from_residual.ensures.1 in
    rw (p.1, p.2) (so_stops _ _ c.in_err-operand-in-Some.field-0.0 (no_accumulated c.args.name.now (value_view c.args.value.now) (differs c.args.name.now (codes "$count") c.eq.result c.eq.ensures c.if-eq.false)) c.in_err-operand-in-Some.ensures)

use Rattle.std.proofs.Common.{◌≡◌, [], drop, map}
use Rattle.bson_model.specs.View.{pairs_of, view}
use Rattle.fallowtime_statements.specs.Finding.{finds_by}
use Rattle.fallowtime_statements.proofs.finding.parts_of.Given as goal

abbrev pub invariant-loop-stage : goal.invariant-loop-stage
invariant-loop-stage l = finds_by l.place (pairs_of l.parts) (map view (drop l.stage-index l.stages)) ≡ finds_by 0 [] (map view l.stages)

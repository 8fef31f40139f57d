use Rattle.std.proofs.Common.{take}
use Rattle.std.specs.List.{AllZip}
use Rattle.bson_model.specs.View.{view}
use Rattle.bson_model.specs.declared.bson.Bson.{Bson}
use Rattle.fallowtime_statements.specs.Staging.{IsStage}
use Rattle.fallowtime_statements.proofs.staging.stages_of.Given as goal

abbrev pub invariant-loop-stage : goal.invariant-loop-stage
invariant-loop-stage l = AllZip (λ (v w : Bson). IsStage (view v) (view w)) (take l.stage-index l.stages) l.list.items

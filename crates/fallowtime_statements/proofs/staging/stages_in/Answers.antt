use Rattle.std.proofs.Common.{subst, map, IfOk, Vec}
use Rattle.std.specs.declared.alloc.Global.{Global}
use Rattle.bson_model.specs.View.{view}
use Rattle.bson_model.specs.declared.bson.Bson.{Bson}
use Rattle.fallowtime_statements.specs.Staging.{AreStages}
use Rattle.fallowtime_statements.proofs.staging.stages_in.Goals as goal

pub returns-in-Some : goal.returns-in-Some
returns-in-Some c =
    subst (λ o. IfOk c.stages_in_value.result (λ (list : Vec Bson Global). AreStages o (map view list.items))) (rw c.in-Some.is at c.value_in.ensures) c.stages_in_value.ensures

use Rattle.std.proofs.Common.{take}
use Rattle.store_model.specs.Reading.{Documents}
use Rattle.store_pipeline.specs.Bodies.{AreLent}
use Rattle.store_pipeline.proofs.grouping.values_of.Given as goal
use Rattle.store_pipeline.specs.Groups.{values_for}
use Rattle.store_pipeline.specs.Taken.{AreTrees}

abbrev pub invariant-loop-body : goal.invariant-loop-body
invariant-loop-body l = (ds : Documents) → AreLent l.bodies ds → AreTrees l.values.items (values_for l.field (take l.body-index ds))

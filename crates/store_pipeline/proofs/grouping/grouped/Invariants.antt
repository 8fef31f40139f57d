use Rattle.std.proofs.Common.{take}
use Rattle.store_model.specs.Reading.{Documents}
use Rattle.store_pipeline.specs.Bodies.{AreBodies}
use Rattle.store_pipeline.proofs.grouping.grouped.Given as goal
use Rattle.store_pipeline.specs.Grouped.{AreGrouped}

abbrev pub invariant-loop-body : goal.invariant-loop-body
invariant-loop-body l = (ds : Documents) → AreBodies l.bodies ds → AreGrouped l.key (take l.body-index ds) l.groups.items

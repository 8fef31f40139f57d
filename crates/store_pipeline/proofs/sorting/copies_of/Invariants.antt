use Rattle.std.proofs.Common.{take}
use Rattle.store_model.specs.Reading.{Documents}
use Rattle.store_pipeline.specs.Bodies.{AreBodies, AreLent}
use Rattle.store_pipeline.proofs.sorting.copies_of.Given as goal

abbrev pub invariant-loop-body : goal.invariant-loop-body
invariant-loop-body l = (ds : Documents) → AreLent l.bodies ds → AreBodies l.copies.items (take l.body-index ds)

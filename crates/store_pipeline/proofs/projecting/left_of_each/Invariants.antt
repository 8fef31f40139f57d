use Rattle.std.proofs.Common.{take}
use Rattle.std.specs.List.{AllZip}
use Rattle.store_pipeline.specs.Views.{left_of}
use Rattle.store_model.specs.Reading.{Documents}
use Rattle.store_pipeline.specs.Bodies.{AreBodies, IsBody}
use Rattle.store_pipeline.proofs.projecting.left_of_each.Given as goal

abbrev pub invariant-loop-body : goal.invariant-loop-body
invariant-loop-body l = (ds : Documents) → AreBodies l.bodies ds → AllZip (λ b d. IsBody b.items (left_of l.fields d)) l.left.items (take l.body-index ds)

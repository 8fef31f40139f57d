use Rattle.std.proofs.Common.{take}
use Rattle.std.specs.List.{flat_map}
use Rattle.store_model.specs.Reading.{Documents}
use Rattle.store_pipeline.specs.Bodies.{AreBodies}
use Rattle.store_pipeline.specs.Unwound.{unwound}
use Rattle.store_pipeline.proofs.WrittenLemmas.{AreWritten}
use Rattle.store_pipeline.proofs.unwinding.unwind.Given as goal

abbrev pub invariant-loop-body : goal.invariant-loop-body
invariant-loop-body l = (ds : Documents) → AreBodies l.bodies ds → AreWritten (flat_map (unwound l.unwinding) (take l.body-index ds)) l.made.items

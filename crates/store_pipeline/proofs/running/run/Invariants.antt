use Rattle.store_model.specs.Reading.{Documents}
use Rattle.store_pipeline.specs.Bodies.{AreBodies}
use Rattle.store_pipeline.proofs.RunLemmas.{Reaches}
use Rattle.store_pipeline.proofs.running.run.Given as goal

abbrev pub invariant-loop-stage : goal.invariant-loop-stage
invariant-loop-stage l = (ds : Documents) → AreBodies l.fn.bodies.items ds → Reaches l.stages ds l.stage-index l.bodies.items

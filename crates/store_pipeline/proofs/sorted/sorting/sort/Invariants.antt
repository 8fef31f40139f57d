use Rattle.std.proofs.Common.{List, map, take}
use Rattle.bson_base.specs.Value.{Members}
use Rattle.store_pipeline.proofs.sorted.sorting.sort.Given as goal
use Rattle.store_pipeline.specs.Bodies.{AreBodies, AreLent, document_at}

abbrev pub invariant-loop-place : goal.invariant-loop-place
invariant-loop-place l = (ds : List Members) → AreBodies l.bodies ds → AreLent l.sorted.items (map (document_at ds) (take l.place-index l.place-items))

use Rattle.std.proofs.Common.{◌≡◌, List, length, map, take}
use Rattle.bson_base.specs.Value.{Members}
use Rattle.store_pipeline.proofs.sorted.sorting.all_places.Given as goal
use Rattle.store_pipeline.specs.Bodies.{document_at}

abbrev pub invariant-loop-place : goal.invariant-loop-place
invariant-loop-place l = (ds : List Members) → length ds ≡ l.count → map (document_at ds) l.places.items ≡ take l.place ds

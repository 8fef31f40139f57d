use Rattle.std.proofs.Common.{◌≡◌, map, take}
use Rattle.store_pipeline.proofs.sorted.field_texts.read_paths.Given as goal
use Rattle.store_pipeline.specs.Texts.{path_in}
use Rattle.store_pipeline.specs.Views.{paths_of}

abbrev pub invariant-loop-part : goal.invariant-loop-part
invariant-loop-part l = paths_of l.paths.items ≡ map (λ x. path_in x.now) (take l.part-index l.part-items)

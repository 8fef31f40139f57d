use Rattle.std.proofs.Common.{◌≡◌, map, take}
use Rattle.store_pipeline.proofs.sorted.texts.path_of.Given as goal
use Rattle.store_question.specs.Filters.{path_of}

abbrev pub invariant-loop-part : goal.invariant-loop-part
invariant-loop-part l = path_of l.path.items ≡ map (λ x. x.now) (take l.part-index l.part-items)

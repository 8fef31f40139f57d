use Rattle.std.proofs.Common.{◌≡◌, length}
use Rattle.store_pipeline.proofs.sorted.field_texts.lie_apart.Given as goal
use Rattle.store_pipeline.specs.FieldTexts.{lie_apart}
use Rattle.store_pipeline.specs.Views.{paths_of}

abbrev pub invariant-loop-path : goal.invariant-loop-path
invariant-loop-path l = lie_apart (paths_of l.paths) ≡ lie_apart (paths_of l.left)

abbrev pub decreases-loop-path : goal.decreases-loop-path
decreases-loop-path l = length l.left

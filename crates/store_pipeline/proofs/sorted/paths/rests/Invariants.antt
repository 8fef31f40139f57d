use Rattle.std.proofs.Common.{◌≡◌, ◌++◌, drop}
use Rattle.store_pipeline.proofs.sorted.paths.rests.Given as goal
use Rattle.store_pipeline.specs.Fields.{rests}
use Rattle.store_pipeline.specs.Views.{paths_lent}

abbrev pub invariant-loop-path : goal.invariant-loop-path
invariant-loop-path l = paths_lent l.found.items ++ rests l.key (paths_lent (drop l.path-index l.paths)) ≡ rests l.key (paths_lent l.paths)

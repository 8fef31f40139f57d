use Rattle.std.proofs.Common.{◌≡◌, take}
use Rattle.store_pipeline.proofs.sorted.paths.lent.Given as goal
use Rattle.store_pipeline.specs.Views.{paths_lent, paths_of}

abbrev pub invariant-loop-path : goal.invariant-loop-path
invariant-loop-path l = paths_lent l.all.items ≡ paths_of (take l.path-index l.paths)

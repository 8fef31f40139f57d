use Rattle.std.proofs.Common.{◌≡◌, drop}
use Rattle.store_pipeline.proofs.sorted.paths.begins.Given as goal
use Rattle.store_pipeline.specs.Fields.{is_begun}
use Rattle.store_pipeline.specs.Views.{paths_of}

abbrev pub invariant-loop-path : goal.invariant-loop-path
invariant-loop-path l = is_begun l.key (paths_of l.paths) ≡ is_begun l.key (paths_of (drop l.path-index l.paths))

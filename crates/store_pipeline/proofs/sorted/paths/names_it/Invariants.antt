use Rattle.std.proofs.Common.{◌≡◌, drop}
use Rattle.store_pipeline.proofs.sorted.paths.names_it.Given as goal
use Rattle.store_pipeline.specs.Fields.{names_it}
use Rattle.store_pipeline.specs.Views.{paths_lent}

abbrev pub invariant-loop-rest : goal.invariant-loop-rest
invariant-loop-rest l = names_it (paths_lent l.rests) ≡ names_it (paths_lent (drop l.rest-index l.rests))

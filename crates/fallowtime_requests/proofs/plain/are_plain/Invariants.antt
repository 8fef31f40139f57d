use Rattle.std.proofs.Common.{◌≡◌, drop}
use Rattle.store_pipeline.specs.Views.{paths_of}
use Rattle.fallowtime_requests.specs.Plain.{are_plain}
use Rattle.fallowtime_requests.proofs.plain.are_plain.Given as goal

abbrev pub invariant-loop-path : goal.invariant-loop-path
invariant-loop-path l = are_plain (paths_of l.paths) ≡ are_plain (paths_of (drop l.path-index l.paths))

use Rattle.std.proofs.Common.{◌≡◌, map, drop}
use Rattle.std.specs.List.{list_any}
use Rattle.store_update.specs.Plan.{path_of, plan_of}
use Rattle.store_question_read.specs.Read.{touches}
use Rattle.store_question_read.proofs.update_paths.is_touched.Given as goal

abbrev pub invariant-loop-step : goal.invariant-loop-step
invariant-loop-step l = list_any (touches (path_of l.path)) (map plan_of l.steps) ≡ list_any (touches (path_of l.path)) (map plan_of (drop l.step-index l.steps))

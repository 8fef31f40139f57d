use Rattle.std.proofs.Common.{◌≡◌, Some, map, take}
use Rattle.bson_model.specs.View.{content, view}
use Rattle.store_update.specs.Plan.{path_of}
use Rattle.store_pipeline.specs.Unwound.{with_at}
use Rattle.store_pipeline.proofs.unwinding.with_each.Given as goal

abbrev pub invariant-loop-value : goal.invariant-loop-value
invariant-loop-value l = map content l.made.items ≡ map (λ v. with_at (path_of l.path) (content l.document) (Some (view v))) (take l.value-index l.values)

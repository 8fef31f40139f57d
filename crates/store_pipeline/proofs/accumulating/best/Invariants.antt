use Rattle.std.proofs.Common.{◌≡◌, drop, map, not, None}
use Rattle.std.specs.List.{filter}
use Rattle.bson_model.specs.View.{view}
use Rattle.store_pipeline.specs.Order.{best}
use Rattle.store_update.specs.Answer.{lent}
use Rattle.store_pipeline.proofs.accumulating.best.Given as goal
use Rattle.store_pipeline.specs.Groups.{is_null}

abbrev pub invariant-loop-value : goal.invariant-loop-value
invariant-loop-value l = best l.greatest None (filter (λ v. not (is_null v)) (map view l.values)) ≡ best l.greatest (lent l.met) (filter (λ v. not (is_null v)) (map view (drop l.value-index l.values)))

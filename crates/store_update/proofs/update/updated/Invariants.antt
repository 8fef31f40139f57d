use Rattle.std.proofs.Common.{◌≡◌, drop, map}
use Rattle.bson_model.specs.View.{content}
use Rattle.store_update.specs.Plan.{plan_of}
use Rattle.store_update.specs.Update.{updated}
use Rattle.store_update.proofs.update.updated.Given as goal

abbrev pub invariant-loop-step : goal.invariant-loop-step
invariant-loop-step l = updated l.inserts (map plan_of l.steps) (content l.fn.document) ≡ updated l.inserts (map plan_of (drop l.step-index l.steps)) (content l.document)

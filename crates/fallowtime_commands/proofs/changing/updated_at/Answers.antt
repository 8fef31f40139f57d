use Rattle.std.proofs.Common.{false, map, refl}
use Rattle.bson_model.specs.View.{content}
use Rattle.store_update.specs.Plan.{plan_of}
use Rattle.store_update.specs.Update.{updated}
use Rattle.fallowtime_commands.proofs.ChangeLemmas.{not_memory}
use Rattle.fallowtime_commands.proofs.changing.updated_at.Goals as goal

pub returns-in_default : goal.returns-in_default
returns-in_default c = (refl, not_memory (updated false (map plan_of c.args.steps.now) (content c.args.document)) c.in-Err.error c.in-Err.ensures c.in_default.not-Memory)

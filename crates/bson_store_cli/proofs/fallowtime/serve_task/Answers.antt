use Rattle.std.proofs.Common.{inr}
use Rattle.fallowtime_front.specs.declared.ending.Ended.TheVariants.{Words}
use Rattle.fallowtime_requests.specs.declared.unread.Unread.TheVariants.{Command}
use Rattle.bson_store_cli.proofs.fallowtime.serve_task.Goals as goal

pub returns-in_default-clause-told : goal.returns-in_default-clause-told
returns-in_default-clause-told g c = inr (Words Command, c.tell.ensures)

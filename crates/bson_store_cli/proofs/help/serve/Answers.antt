use Rattle.std.proofs.Common.{inr}
use Rattle.fallowtime_front.specs.declared.ending.Ended.TheVariants.{Refused, Words}
use Rattle.fallowtime_requests.specs.declared.unread.Unread.TheVariants.{Command}
use Rattle.bson_store_cli.proofs.help.serve.Goals as goal

pub returns-in-Ok-None : goal.returns-in-Ok-None
returns-in-Ok-None g c = inr (Words Command, c.tell.ensures)

pub returns-in-Err : goal.returns-in-Err
returns-in-Err g c = inr (Refused c.from.result, c.tell-in-Err.ensures)

use Rattle.std.proofs.Common.{inr}
use Rattle.fallowtime_front.specs.declared.ending.Ended.TheVariants.{Refused}
use Rattle.bson_store_cli.proofs.help.print.Goals as goal

pub returns-in-Err : goal.returns-in-Err
returns-in-Err g c = inr (Refused c.from.result, c.tell.ensures)

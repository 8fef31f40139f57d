use Rattle.std.proofs.Common.{Ok, Err, refl}
use Rattle.bson_store_cli.proofs.fallowtime.answer_messages.Goals as goal

pub returns-in-Ok : goal.returns-in-Ok
returns-in-Ok g c = (Ok tt, refl, c.in-Ok.ensures)

pub returns-in-Err : goal.returns-in-Err
returns-in-Err g c = (Err c.in-Err.kind, search, c.in-Err.ensures)

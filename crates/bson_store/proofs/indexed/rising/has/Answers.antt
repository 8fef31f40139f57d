use Rattle.bson_store.proofs.AmongLemmas.{found_among}
use Rattle.bson_store.proofs.indexed.rising.has.Goals as goal

pub returns-in-Ok : goal.returns-in-Ok
returns-in-Ok c t = found_among c.args.place.now c.args.places.now c.in-Ok.field-0 c.in-Ok.ensures.bound c.in-Ok.ensures.ok

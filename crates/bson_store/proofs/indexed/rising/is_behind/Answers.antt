use Rattle.bson_store.proofs.AmongLemmas.{below_last}
use Rattle.bson_store.proofs.indexed.rising.is_behind.Goals as goal

pub returns-in-Some : goal.returns-in-Some
returns-in-Some c t h =
    let it = c.in-Some.ensures.item in
    below_last c.args.places.now c.in-Some.last.now c.args.place.now it.3.0 it.1 (c.is_below.ensures t) h

use Rattle.std.proofs.Common.{◌≡◌, map, take}
use Rattle.bson_bytes.specs.Encode.{encode}
use Rattle.bson_store.specs.Export.{bytes_of_each}
use Rattle.store_model.specs.Reading.{Documents}
use Rattle.store_model.specs.State.{AreKept}
use Rattle.store_asked.proofs.drafted.take_bodies.Given as goal

abbrev pub invariant-loop-body : goal.invariant-loop-body
invariant-loop-body g l = (ds : Documents) → AreKept ds → bytes_of_each l.bodies ≡ map encode ds → g.T.Take.took l.fn.taker l.taker (take l.body-index ds)

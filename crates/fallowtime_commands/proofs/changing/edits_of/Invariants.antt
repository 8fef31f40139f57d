use Rattle.std.proofs.Common.{◌≡◌, map, take}
use Rattle.bson_bytes.specs.Encode.{encode}
use Rattle.store_model.specs.Reading.{Documents}
use Rattle.store_model.specs.State.{AreKept}
use Rattle.bson_store.specs.Export.{bytes_of_each}
use Rattle.fallowtime_commands.specs.Changing.{AreEdits}
use Rattle.fallowtime_commands.proofs.changing.edits_of.Given as goal

abbrev pub invariant-loop-at : goal.invariant-loop-at
invariant-loop-at l = (ds : Documents) → AreKept ds → bytes_of_each l.bodies ≡ map encode ds → AreEdits l.name l.work (take l.at ds) l.edits.items

use Rattle.std.proofs.Common.{◌≡◌, map}
use Rattle.bson_bytes.specs.Encode.{encode}
use Rattle.store_model.specs.Reading.{Documents}
use Rattle.store_model.specs.State.{AreKept}
use Rattle.bson_store.specs.Export.{bytes_of_each}
use Rattle.fallowtime_commands.proofs.DraftLemmas.{RemovedSoFar}
use Rattle.fallowtime_commands.proofs.transferring.push_removals.Given as goal

abbrev pub invariant-loop-body : goal.invariant-loop-body
invariant-loop-body l = (ds : Documents) (kept : AreKept ds) (same : bytes_of_each l.bodies ≡ map encode ds) → RemovedSoFar l.name l.bodies ds kept same l.fn.edits.items l.body-index l.edits.items

use Rattle.std.proofs.Common.{◌≡◌, ◌++◌, List, map, take}
use Rattle.bson_bytes.specs.Encode.{encode}
use Rattle.store_model.specs.Reading.{Documents}
use Rattle.bson_store.specs.Export.{bytes_of_each}
use Rattle.bson_store.specs.declared.edit.Edit.{Edit}
use Rattle.fallowtime_commands.specs.Transferring.{AreInsertions}
use Rattle.fallowtime_commands.proofs.transferring.push_insertions.Given as goal

abbrev pub invariant-loop-body : goal.invariant-loop-body
invariant-loop-body l = (ds : Documents) → bytes_of_each l.bodies ≡ map encode ds → (xs : List Edit) × AreInsertions l.name xs (take l.body-index ds) × (l.edits.items ≡ l.fn.edits.items ++ xs)

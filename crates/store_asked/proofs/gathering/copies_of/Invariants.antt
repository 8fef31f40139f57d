use Rattle.std.proofs.Common.{◌≡◌, take}
use Rattle.bson_store.specs.Export.{bytes_of_each}
use Rattle.store_asked.proofs.GatherLemmas.{seen}
use Rattle.store_asked.proofs.gathering.copies_of.Given as goal

abbrev pub invariant-loop-body : goal.invariant-loop-body
invariant-loop-body l = bytes_of_each l.copies.items ≡ seen (take l.body-index l.bodies)

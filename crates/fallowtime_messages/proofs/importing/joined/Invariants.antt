use Rattle.std.proofs.Common.{◌≡◌, take}
use Rattle.bson_store.specs.Export.{bytes_of_each}
use Rattle.fallowtime_messages.specs.Outcomes.{joined}
use Rattle.fallowtime_messages.proofs.importing.joined.Given as goal

abbrev pub invariant-loop-document : goal.invariant-loop-document
invariant-loop-document l = l.stream.items ≡ joined (bytes_of_each (take l.document-index l.documents))

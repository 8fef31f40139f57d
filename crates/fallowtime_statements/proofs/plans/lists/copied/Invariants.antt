use Rattle.std.proofs.Common.{◌≡◌, map, take}
use Rattle.bson_raw.specs.View.{bytes_of}
use Rattle.bson_store.specs.Export.{bytes_of_each}
use Rattle.fallowtime_statements.proofs.plans.lists.copied.Given as goal

abbrev pub invariant-loop-document : goal.invariant-loop-document
invariant-loop-document l = bytes_of_each l.list.items ≡ map bytes_of (take l.document-index l.documents)

use Rattle.std.proofs.Common.{map, take}
use Rattle.bson_model.specs.View.{content}
use Rattle.store_pipeline.specs.Faithful.{AreFaithful}
use Rattle.store_pipeline.proofs.WrittenLemmas.{AreWritten}
use Rattle.store_pipeline.proofs.writing.write_each.Given as goal

abbrev pub invariant-loop-document : goal.invariant-loop-document
invariant-loop-document l = AreFaithful (map content l.documents) → AreWritten (take l.document-index (map content l.documents)) l.bodies.items

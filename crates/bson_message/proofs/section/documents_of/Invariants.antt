use Rattle.std.proofs.Common.{length, map}
use Rattle.bson_raw.specs.View.{bytes_of}
use Rattle.bson_message.specs.Parts.{IsDocument}
use Rattle.bson_message.proofs.RunLemmas.{Way}
use Rattle.bson_message.proofs.section.documents_of.Given as goal

abbrev pub invariant-loop-rest : goal.invariant-loop-rest
invariant-loop-rest l = record {
  met : Way IsDocument l.bytes l.rest (map bytes_of l.documents.items);
}

abbrev pub decreases-loop-rest : goal.decreases-loop-rest
decreases-loop-rest l = length l.rest

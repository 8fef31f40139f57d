use Rattle.std.proofs.Common.{length}
use Rattle.bson_message.proofs.DocumentLemmas.{HasPassed}
use Rattle.bson_message.proofs.section.are_documents.Given as goal

abbrev pub invariant-loop-rest : goal.invariant-loop-rest
invariant-loop-rest l = record {
  met : HasPassed l.bytes l.rest;
}

abbrev pub decreases-loop-rest : goal.decreases-loop-rest
decreases-loop-rest l = length l.rest

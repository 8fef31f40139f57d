use Rattle.std.proofs.Common.{length}
use Rattle.bson_message.proofs.BodyLemmas.{HasFound}
use Rattle.bson_message.proofs.op_msg.OpMsg.sequences.Given as goal

abbrev pub invariant-loop-section : goal.invariant-loop-section
invariant-loop-section l = record {
  met : HasFound l.self.sections.now l.rest l.found.items;
}

abbrev pub decreases-loop-section : goal.decreases-loop-section
decreases-loop-section l = length l.rest

use Rattle.std.proofs.Common.{length}
use Rattle.bson_message.proofs.BodyLemmas.{HasMet}
use Rattle.bson_message.proofs.op_msg.body_of.Given as goal

abbrev pub invariant-loop-rest : goal.invariant-loop-rest
invariant-loop-rest l = record {
  met : HasMet l.sections l.rest l.body;
}

abbrev pub decreases-loop-rest : goal.decreases-loop-rest
decreases-loop-rest l = length l.rest

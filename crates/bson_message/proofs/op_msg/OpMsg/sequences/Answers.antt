use Rattle.std.proofs.Common.{rules, subst, sym}
use Rattle.bson_raw.specs.View.{bytes_of}
use Rattle.bson_message.proofs.BodyLemmas.{HasFound, all_found, body_passed, sequence_found}
use Rattle.bson_message.proofs.op_msg.OpMsg.sequences.Goals as goal

pub loop-section-preserved-in_ok-push : goal.loop-section-preserved-in_ok-push
loop-section-preserved-in_ok-push c = record {
  met = subst (λ l. HasFound c.args.self.sections.now c.in-Some.behind.now l) (sym c.in_ok-push.ensures.items) (sequence_found c.args.self.sections.now c.loop-section.rest.now c.loop-section.found.items c.in-Sequence.sequence c.in-Some.behind.now c.loop-section.invariant.met (search rules));
}

pub loop-section-preserved : goal.loop-section-preserved
loop-section-preserved c = record {
  met = body_passed c.args.self.sections.now c.loop-section.rest.now c.loop-section.found.items (bytes_of c.in_default-section.field-0) c.in-Some.behind.now c.loop-section.invariant.met (search rules);
}

pub returns : goal.returns
returns c = all_found c.args.self.sections.now c.loop-section.rest.now c.loop-section.found.items c.loop-section.invariant.met c.in_default.ensures

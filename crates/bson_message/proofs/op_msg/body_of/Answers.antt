use Rattle.std.proofs.Common.{rules, arith}
use Rattle.bson_message.proofs.BodyLemmas.{body_met, cut_off, ended, sequence_met, two_bodies}
use Rattle.bson_message.proofs.op_msg.body_of.Goals as goal

pub returns-in_default : goal.returns-in_default
returns-in_default c = cut_off c.args.sections.now c.loop-rest.body c.loop-rest.rest.now c.loop-rest.invariant.met c.in_default.ensures (search (rules, arith, c.is_empty.ensures, c.loop-rest-test.ensures))

pub returns-then-is_some : goal.returns-then-is_some
returns-then-is_some c = two_bodies c.args.sections.now c.loop-rest.body c.in-Body.document c.loop-rest.rest.now c.in-Some.behind.now c.loop-rest.invariant.met (search rules) (search rules)

pub loop-rest-preserved-else-is_some : goal.loop-rest-preserved-else-is_some
loop-rest-preserved-else-is_some c = record {
  met = body_met c.args.sections.now c.loop-rest.rest.now c.in-Body.document c.in-Some.behind.now (search rules) (search rules);
}

pub loop-rest-preserved : goal.loop-rest-preserved
loop-rest-preserved c = record {
  met = sequence_met c.args.sections.now c.loop-rest.body c.loop-rest.rest.now c.in_default-section.field-0.name.now c.in_default-section.field-0.documents.now c.in-Some.behind.now c.loop-rest.invariant.met (search rules);
}

pub returns : goal.returns
returns c = ended c.args.sections.now c.loop-rest.rest.now c.loop-rest.body c.loop-rest.invariant.met (search (rules, arith, c.is_empty.ensures, c.loop-rest-test.ensures))

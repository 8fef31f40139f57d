use Rattle.std.proofs.Common.{rules, arith}
use Rattle.bson_message.proofs.BodyLemmas.{msg_cut}
use Rattle.bson_message.proofs.op_msg.op_msg_of.Goals as goal

pub returns-in_default-body_of : goal.returns-in_default-body_of
returns-in_default-body_of c = msg_cut c.args.bytes.now c.in-Some.rest.now _ _ c.in-Some.ensures.2 (search (rules, arith)) c.split_at.ensures.front c.in_default-body_of.ensures

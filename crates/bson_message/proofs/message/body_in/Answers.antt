use Rattle.std.proofs.Common.{ℕ, subst, sym}
use Rattle.bson_message.specs.Messages.{Says}
use Rattle.bson_message.proofs.message.body_in.Goals as goal

pub returns-in-2004 : goal.returns-in-2004
returns-in-2004 c = subst (λ (o : ℕ). Says c.args.whole.now o c.args.bytes.now c.query_in.result) (sym c.in-2004.is) (c.query_in.ensures c.args.whole.now)

use Rattle.store_question_read.proofs.ReadLemmas.{asks_none}
use Rattle.store_question_read.proofs.update_operands.asks_date.Goals as goal

pub returns-in_default-2 : goal.returns-in_default-2
returns-in_default-2 c = asks_none c.args.members.now c.in_default.len_at_least

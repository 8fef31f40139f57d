use Rattle.json.specs.Value.{value_view}
use Rattle.store_question_read.proofs.HeldLemmas.{read_refused}
use Rattle.store_question_read.proofs.values.read.Goals as goal

pub returns-in_default : goal.returns-in_default
returns-in_default c = read_refused c.in-Err.error c.args.key.now (value_view c.args.tree.now) c.operand.result c.in-Err.ensures c.in_default.not-Memory c.operand.ensures

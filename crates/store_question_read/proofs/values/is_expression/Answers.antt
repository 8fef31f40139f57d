use Rattle.store_question_read.proofs.LeafLemmas.{no_expression}
use Rattle.store_question_read.proofs.values.is_expression.Goals as goal

pub returns-in_default : goal.returns-in_default
returns-in_default c = λ v s. no_expression c.args.value v c.in_default.not-RegularExpression s

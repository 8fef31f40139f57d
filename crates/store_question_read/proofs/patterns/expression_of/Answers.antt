use Rattle.store_question_read.proofs.PatternLemmas.{no_expression}
use Rattle.store_question_read.proofs.patterns.expression_of.Goals as goal

pub returns-in_default : goal.returns-in_default
returns-in_default c = λ v s. no_expression c.args.value v c.in_default.not-String c.in_default.not-RegularExpression s

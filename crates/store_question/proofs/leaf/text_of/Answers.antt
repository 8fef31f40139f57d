use Rattle.store_question.proofs.ValueLemmas.{no_text}
use Rattle.store_question.proofs.leaf.text_of.Goals as goal

pub returns-in_default : goal.returns-in_default
returns-in_default c = λ v s. no_text c.args.value v c.in_default.not-String c.in_default.not-Symbol s

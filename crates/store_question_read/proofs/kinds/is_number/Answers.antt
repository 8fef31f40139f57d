use Rattle.store_question_read.proofs.LeafLemmas.{no_number_name}
use Rattle.store_question_read.proofs.kinds.is_number.Goals as goal

pub returns-in_default : goal.returns-in_default
returns-in_default c = λ v s. no_number_name c.args.value v c.in_default.not-String s

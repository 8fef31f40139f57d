use Rattle.store_question_read.proofs.PatternLemmas.{fixed_beginning}
use Rattle.store_question_read.proofs.laws.fixed_beginnings.Goals as goal

pub returns : goal.returns
returns c = λ bs pattern. fixed_beginning bs pattern

use Rattle.store_question.proofs.ValueLemmas.{value_found}
use Rattle.store_pipeline.proofs.sorted.values.with_item.Goals as goal

pub returns-in-Some : goal.returns-in-Some
returns-in-Some c = λ o s v w b low. c.better.ensures o s v (value_found c.in-Some.found v (c.in-Some.ensures v w b) b low)

pub returns-in-None : goal.returns-in-None
returns-in-None c = λ o s v w b low. let none = c.in-None.ensures v w b in absurd cc

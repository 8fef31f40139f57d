use Rattle.std.proofs.Common.{drop}
use Rattle.store_asked.specs.Front.{Passes}
use Rattle.store_asked.proofs.AnswerFrontLemmas.{Going}
use Rattle.store_asked.proofs.filtering.+front.Given as goal

abbrev pub invariant-each-loop-question : goal.invariant-each-loop-question
invariant-each-loop-question l = Going Passes l.list l.filters.items (drop l.question-index l.list)

use Rattle.std.proofs.Common.{drop}
use Rattle.store_question.specs.Filters.{path_of}
use Rattle.store_asked.specs.Front.{Meets}
use Rattle.store_asked.proofs.AnswerFrontLemmas.{Going}
use Rattle.store_asked.proofs.filtering.+place.Given as goal

abbrev pub invariant-each_at-loop-question : goal.invariant-each_at-loop-question
invariant-each_at-loop-question l = Going (Meets (path_of l.path)) l.list l.filters.items (drop l.question-index l.list)

use Rattle.std.proofs.Common.{drop, map}
use Rattle.store_question.specs.Asked.{Askeds}
use Rattle.store_question.specs.Reads.{ReadEach, form_of, forms_of}
use Rattle.store_question.proofs.LackLemmas.{LeftOf}
use Rattle.store_question.proofs.lacking.lacks_one.Given as goal

abbrev pub invariant-loop-question : goal.invariant-loop-question
invariant-loop-question l = (ts : Askeds) → ReadEach (forms_of (map form_of l.list)) ts → LeftOf ts (drop l.question-index l.list)

use Rattle.std.proofs.Common.{sym, subst}
use Rattle.store_question.specs.Asked.{has_item}
use Rattle.store_question.specs.declared.question.Question.{Question}
use Rattle.store_question_read.specs.Outcome.{Asks}
use Rattle.store_question_read.proofs.MadeLemmas.{item_asks}
use Rattle.store_question_read.proofs.made.item.Goals as goal

pub returns : goal.returns
returns c = λ t r. c.whole.ensures (has_item t) (item_asks c.in_ok-inner.inner t (subst (λ (q : Question). Asks q t) (sym c.in_ok-inner.ensures.ok) r))

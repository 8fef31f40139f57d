use Rattle.std.proofs.Common.{Ok}
use Rattle.store_question.specs.Asked.{no}
use Rattle.store_question_read.specs.Outcome.{Asks}
use Rattle.store_question_read.proofs.OnwardLemmas.{onward}
use Rattle.store_question_read.proofs.conditions.differs.Goals as goal

pub returns : goal.returns
returns c = onward Asks Asks c.in_ok-same.same (Ok c.in_ok-not.field-0) _ (λ q. Ok (no q)) c.in_ok-same.ensures c.in_ok-not.ensures

use Rattle.std.proofs.Common.{List, ℕ, sym, subst}
use Rattle.store_question.specs.Lacking.{StandsIn}
use Rattle.store_question.proofs.lacking.lacks_text.Goals as goal

pub returns : goal.returns
returns c = λ t s. c.stands_nowhere.ensures t (subst (λ (l : List ℕ). StandsIn l c.args.bytes.now) (sym c.as_bytes.ensures.value) s)

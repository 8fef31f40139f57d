use Rattle.std.proofs.Common.{◌∙◌, sym, subst}
use Rattle.store_question.specs.Reads.{Shows}
use Rattle.store_question.proofs.ValueLemmas.{shown_some}
use Rattle.store_pipeline.proofs.SortedLedLemmas.{first_met, goes_first, stays_first}
use Rattle.store_pipeline.proofs.sorted.values.better.Goals as goal
use Rattle.store_pipeline.specs.Order.{best, itself}

pub returns-in-None : goal.returns-in-None
returns-in-None c = λ o s v f. first_met c.args.descending o c.args.value v (subst (λ m. Shows m o) c.in-None.is s) f

pub returns-then-is_lt : goal.returns-then-is_lt
returns-then-is_lt c = λ o s v f. goes_first c.args.descending o c.args.value c.in-Some.other v c.compare_turned.result f (shown_some c.args.met c.in-Some.other o c.in-Some.is s) c.compare_turned.ensures (sym c.is_lt.ensures ∙ c.if-is_lt.true)

pub returns-else-is_lt : goal.returns-else-is_lt
returns-else-is_lt c = λ o s v f. subst (λ m. Shows m (best c.args.descending o (itself v))) (sym c.in-Some.is) (stays_first c.args.descending o c.args.value c.in-Some.other v c.compare_turned.result f (shown_some c.args.met c.in-Some.other o c.in-Some.is s) c.compare_turned.ensures (sym c.is_lt.ensures ∙ c.if-is_lt.false))

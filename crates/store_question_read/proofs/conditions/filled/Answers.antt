use Rattle.std.proofs.Common.{◌≡◌, ◌==◌, ℕ, true, false, length, ap, sym, ◌∙◌}
use Rattle.store_question_read.proofs.QueryLemmas.{filled_given}
use Rattle.store_question_read.proofs.conditions.filled.Goals as goal

pub returns-else-is_empty : goal.returns-else-is_empty
returns-else-is_empty c = λ ts r. filled_given c.args.key.now c.args.list ts (λ none. let x : true ≡ false = sym (c.is_empty.ensures ∙ ap (λ (n : ℕ). n == 0) (c.args.list.ok.0 ∙ ap length none)) ∙ c.if-is_empty.false in absurd cc) r

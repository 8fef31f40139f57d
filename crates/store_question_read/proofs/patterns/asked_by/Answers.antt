use Rattle.std.proofs.Common.{◌≡◌, List, ℕ, Option, Vec, Global, ap, subst, sym, ◌∙◌}
use Rattle.std.specs.Prelude.{IfOk, option_map}
use Rattle.store_question_read.specs.Outcome.{AsksOf}
use Rattle.store_question_read.specs.Patterns.{begun_or, searched}
use Rattle.store_question_read.proofs.BuildLemmas.{asks_begun}
use Rattle.store_question_read.proofs.patterns.asked_by.Goals as goal

pub returns-in-Some : goal.returns-in-Some
returns-in-Some c =
    asks_begun c.in-Some.bytes _ _ c.beginning.result (sym (ap (option_map (λ (b : Vec ℕ Global). b.items)) c.in-Some.is) ∙ c.in_ok-beginning.ensures) c.beginning.ensures

pub returns-in-None : goal.returns-in-None
returns-in-None c =
    subst (λ (b : Option (List ℕ)). IfOk c.searched.result (λ o. AsksOf o (begun_or b (searched c.args.options.now c.args.source.now)))) (sym (ap (option_map (λ (b : Vec ℕ Global). b.items)) c.in-None.is) ∙ c.in_ok-beginning.ensures) c.searched.ensures

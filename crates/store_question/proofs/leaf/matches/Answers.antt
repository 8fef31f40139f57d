use Rattle.std.proofs.Common.{Bool, List, ℕ, Option, ◌≡◌, subst, sym}
use Rattle.std.specs.Prelude.{IfOk, option_and_then}
use Rattle.bson_base.specs.Value.{Value}
use Rattle.store_question.specs.Asked.{text_in}
use Rattle.store_question.specs.Patterns.{matches_so}
use Rattle.store_question.proofs.ValueLemmas.{found_spells, shown_some}
use Rattle.store_question.proofs.leaf.matches.Goals as goal

pub returns-in-Some : goal.returns-in-Some
returns-in-Some c = λ options source r o s.
    let f = shown_some c.args.value c.in-Some.found o c.in-Some.is s in
    subst (λ (x : Option Value). IfOk c.matches_in.result (λ b. b ≡ matches_so options source (option_and_then text_in x))) (sym f.1)
    (subst (λ (x : Option (List ℕ)). IfOk c.matches_in.result (λ b. b ≡ matches_so options source x)) (c.text_of.ensures f.0 (found_spells c.in-Some.found f.0 f.2)) (c.matches_in.ensures options source r))

use Rattle.std.proofs.Common.{◌≡◌, ◌∙◌, Bor, IsTrue, List, ℕ, Some, sym, ap, subst}
use Rattle.std.specs.Prelude.{option_map}
use Rattle.store_question.specs.Asked.{lies_to, text_in}
use Rattle.store_question.specs.declared.question.Comparison.{Comparison}
use Rattle.store_question.proofs.LackLemmas.{text_beyond}
use Rattle.store_question.proofs.lacking.lacks_equal.Goals as goal

pub returns-in-Some : goal.returns-in-Some
returns-in-Some c = λ w s t u h.
    let e : text_in w ≡ Some c.in-Some.text.now = sym (c.text_of.ensures w s) ∙ ap (option_map (λ (x : Bor (List ℕ)). x.now)) c.in-Some.is in
    text_beyond w u c.in-Some.text.now c.args.bytes.now e (c.lacks_text.ensures t) (subst (λ (k : Comparison). IsTrue (lies_to k u w)) c.in-Equal.is h)

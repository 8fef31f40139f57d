use Rattle.std.proofs.Common.{rules, ◌≡◌, Some, true, sym, subst}
use Rattle.bson_base.specs.Value.{document}
use Rattle.store_question.specs.Filters.{path_of}
use Rattle.store_question.specs.Asked.{Answers, Asked}
use Rattle.store_question.specs.Reads.{Form, Reads, at_form, form_of}
use Rattle.store_question.specs.declared.question.Question.{Question, the_lemmas}
use Rattle.store_question.proofs.lacking.lacks_at.Goals as goal

pub returns-then-not-names_place : goal.returns-then-not-names_place
returns-then-not-names_place c = λ t r d is yes a.
    let same : form_of c.args.question.now ≡ at_form (path_of c.in-At.path.items) (form_of c.in-At.inner.value) = rw c.in-At.is (search (rules, the_lemmas)) in
    let p = subst (λ (f : Form). Reads f t) same r in
    let inner = subst (λ (q : Question). Reads (form_of q) p.0) (sym c.deref-then-not-names_place.ensures) p.2 in
    c.lacks_value.ensures p.0 inner true (path_of c.in-At.path.items) (document d) is yes (subst (λ (x : Asked). Answers x (Some (document d))) p.1 a)

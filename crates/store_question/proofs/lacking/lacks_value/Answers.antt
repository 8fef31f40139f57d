use Rattle.std.proofs.Common.{rules, ◌≡◌, Some, sym, subst}
use Rattle.bson_raw.specs.Convert.{SpellsRawValue}
use Rattle.bson_raw.specs.Raw.{RawValue, own_value}
use Rattle.store_question.specs.Asked.{Along, Answers, Asked}
use Rattle.store_question.specs.Reads.{Form, Reads, compare_form, form_of}
use Rattle.store_question.specs.declared.question.Question.{the_lemmas}
use Rattle.store_question.proofs.LackLemmas.{none_along}
use Rattle.store_question.proofs.lacking.lacks_value.Goals as goal

pub returns-in-Compare : goal.returns-in-Compare
returns-in-Compare c = λ t r opens p v is yes a.
    let same : form_of c.args.question.now ≡ compare_form c.in-Compare.comparison (own_value c.in-Compare.other) = rw c.in-Compare.is (search (rules, the_lemmas)) in
    let q = subst (λ (f : Form). Reads f t) same r in
    let spelled = subst (λ (x : RawValue). SpellsRawValue x q.0) (sym c.as_raw_bson_ref.ensures) q.2 in
    none_along opens c.in-Compare.comparison q.0 p v c.args.bytes.now is (c.lacks_equal.ensures q.0 spelled yes) (subst (λ (x : Asked). Along opens (Answers x) p (Some v)) q.1 a)

use Rattle.std.proofs.Common.{◌≡◌, ◌↔◌, IsTrue, Option, sym, ◌∙◌, subst, rules}
use denote.Enum.Bare.{same_true, true_same}
use Rattle.bson_base.specs.contracts.spec.ElementType.{the_type}
use Rattle.bson_base.specs.Value.{document}
use Rattle.bson_raw.specs.declared.bson_ref.RawBsonRef.{RawBsonRef}
use Rattle.store_question.specs.Filters.{path_of}
use Rattle.store_question.specs.Views.{Finds}
use Rattle.store_question.proofs.SelectLemmas.{kind_asked}
use Rattle.store_question.proofs.select.has_kind_at.Goals as goal
use Rattle.store_model.specs.Filter.{at}

pub returns-in-Some : goal.returns-in-Some
returns-in-Some c = λ d clean sound is.
    let path = path_of c.args.path.now in
    let found = subst (λ (o : Option RawBsonRef). Finds o (at (document d) path)) c.in-Some.is (c.look_up.ensures.found d clean sound is) in
    let told : IsTrue c.eq.result ↔ (c.element_type.result ≡ c.args.kind) = (λ t. same_true the_type (search rules) c.element_type.result c.args.kind (sym c.eq.ensures ∙ t), λ e. c.eq.ensures ∙ true_same the_type c.element_type.result c.args.kind e) in
    kind_asked c.eq.result c.in-Some.found (document d) path c.element_type.result c.args.kind found c.element_type.ensures told

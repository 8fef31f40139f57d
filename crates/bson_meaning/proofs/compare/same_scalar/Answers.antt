use Rattle.std.proofs.Common.{sym, ap, ◌∙◌, not, true, false, ◌≡◌}
use denote.Enum.Bare.{true_same}
use Rattle.bson_base.specs.contracts.spec.ElementType.{the_type}
use Rattle.bson_model.specs.View.{view}
use Rattle.bson_meaning.proofs.ComparisonLemmas.{same_kind}
use Rattle.bson_meaning.proofs.compare.same_scalar.Goals as goal

pub returns-then-ne : goal.returns-then-ne
returns-then-ne c = (
  λ h. absurd cc,
  λ h.
      let kinds = c.element_type.ensures ∙ same_kind (view c.args.value.now) (view c.args.other.now) h ∙ sym c.element_type-2.ensures in
      let both : true ≡ false = sym c.if-ne.true ∙ c.ne.ensures ∙ ap not (true_same the_type c.element_type.result c.element_type-2.result kinds) in
      absurd cc,
)

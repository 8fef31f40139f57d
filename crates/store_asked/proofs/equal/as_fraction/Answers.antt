use Rattle.std.proofs.Common.{◌≡◌, ℕ, ℤ, Option, ◌∙◌, ap₂, subst, of_z, to_z}
use Rattle.std.proofs.lemmas.Int.{to_z-of_z}
use Rattle.std.specs.Int.{w64}
use Rattle.bson_base.specs.declared.spec.ElementType.TheVariants as kinds
use Rattle.store_model.specs.Filter.{is_of}
use Rattle.store_question.specs.Filters.{filter_of, path_of}
use Rattle.store_question.specs.declared.filter.Filter.{Filter}
use Rattle.store_asked.specs.Front.{IsDoubleAt, double_at, either}
use Rattle.store_asked.proofs.AnswerFrontLemmas.{weaker}
use Rattle.store_asked.proofs.equal.as_fraction.Goals as goal

pub returns-in-Ok : goal.returns-in-Ok
returns-in-Ok c =
    let path = path_of c.args.path.now in
    let z = c.args.whole in
    let same : to_z w64 (of_z w64 z) ≡ z = to_z-of_z w64 z c.ranges.whole in
    let double = filter_of c.in_ok-double.double in
    let decimals = filter_of c.in-Ok.decimals in
    let told = subst (λ (y : ℤ). (o : Option ℕ) × IsDoubleAt y o × (double ≡ double_at path o)) same c.in_ok-double.ensures in
    weaker (λ (f : Filter). filter_of f ≡ either double decimals) (λ (f : Filter). (o : Option ℕ) × IsDoubleAt z o × (filter_of f ≡ either (double_at path o) (is_of path kinds.Decimal128))) c.either.result
    (λ f is. (told.0, told.1, is ∙ ap₂ either told.2 c.in-Ok.ensures)) c.either.ensures

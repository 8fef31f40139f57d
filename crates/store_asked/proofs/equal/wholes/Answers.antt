use Rattle.std.proofs.Common.{◌≡◌, ℕ, ℤ, Option, Some, refl, ap, ◌∙◌, subst, of_z, to_z}
use Rattle.std.proofs.lemmas.Int.{to_z-of_z}
use Rattle.std.specs.Int.{w64}
use Rattle.bson_base.specs.declared.spec.ElementType.TheVariants as kinds
use Rattle.bson_base.specs.Value.{Value}
use Rattle.bson_order.specs.Wholes.{whole_of}
use Rattle.store_model.specs.Filter.{is_of}
use Rattle.store_question.specs.Filters.{filter_of, path_of}
use Rattle.store_question.specs.declared.filter.Filter.{Filter}
use Rattle.store_asked.specs.Front.{IsDoubleAt, Reaches, double_at, either, integers_at}
use Rattle.store_asked.proofs.AnswerFrontLemmas.{weaker}
use Rattle.store_asked.proofs.ArmLemmas.{whole_reached}
use Rattle.store_asked.proofs.equal.wholes.Goals as goal

pub returns-in-Ok-clause-reached : goal.returns-in-Ok-clause-reached
returns-in-Ok-clause-reached c =
    let path = path_of c.args.path.now in
    let z = c.args.whole in
    let same : to_z w64 (of_z w64 z) ≡ z = to_z-of_z w64 z c.ranges.whole in
    let integers = filter_of c.in_ok-integers.integers in
    let others = filter_of c.in-Ok.others in
    let wide = subst (λ (y : ℤ). (o : Option ℕ) × IsDoubleAt y o × (others ≡ either (double_at path o) (is_of path kinds.Decimal128))) same c.in-Ok.ensures in
    weaker (λ (f : Filter). filter_of f ≡ either integers others) (λ (f : Filter). (w : Value) → whole_of w ≡ Some z → Reaches path w (filter_of f)) c.either.result
    (λ f is. whole_reached path z integers (double_at path wide.0) (is_of path kinds.Decimal128) others (filter_of f) c.ranges.whole (c.in_ok-integers.ensures ∙ ap (integers_at path) same)
    (wide.0, wide.1, refl) refl wide.2 is) c.either.ensures

use Rattle.std.proofs.Common.{◌≡◌, ◌++◌, true, ap, sym, subst, ◌∙◌, rules, IsTrue, Option, Vec, ℤ, Global}
use Rattle.std.specs.Prelude.{IfSome}
use Rattle.store_question.specs.Filters.{path_of}
use Rattle.bson_store.specs.Fronts.{LiesIn}
use Rattle.bson_store.specs.Lists.{is_among}
use Rattle.bson_store.proofs.ServingLemmas.{by_all, by_range}
use Rattle.bson_store.proofs.indexed.serving.places_of_range.Goals as goal

pub returns : goal.returns
returns c =
    let same : c.is_same_path.result ≡ true = (let f = c.if-not-is_same_path.false in search rules) in
    let ix = c.args.index.now in
    let range = c.args.range.now in
    by_all ix (LiesIn range) c.extend_from_slice.new.self.items c.in_order.result
    (by_range ix range c.in_ok-all.all.items c.in-Some.places.items c.extend_from_slice.new.self.items (ap path_of (sym c.as_slice.ensures.value) ∙ c.is_same_path.ensures.0 same ∙ ap path_of c.as_slice-2.ensures.value) (c.in_ok-all.ensures.items ∙ c.as_slice-3.ensures)
    (c.in_ok-extend_from_slice.ensures.items ∙ ap (λ l. c.in_ok-all.all.items ++ l) c.as_slice-4.ensures.value)
    (λ q p low high there. subst (λ (o : Option (Vec ℤ Global)). IfSome o (λ v. IsTrue (is_among p v.items))) c.in-Some.is (c.in_ok-places.ensures q p low high there)))
    c.in_order.ensures.ascending c.in_order.ensures.all

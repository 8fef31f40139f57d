use Rattle.std.proofs.Common.{bytes_eq, sym, ap, ◌∙◌, subst, arith}
use Rattle.std.specs.List.{IsDistinct}
use Rattle.bson_pairs.specs.Index.{index_of, places_of}
use Rattle.bson_pairs.specs.Keyed.{key_bytes}
use Rattle.bson_pairs.proofs.IndexLemmas.{order_length}
use Rattle.bson_pairs.proofs.growing_keys.GrowingKeys.new.Goals as goal

pub invariant_of-result : goal.invariant_of-result
invariant_of-result c =
    let parts = c.into_parts-texts.result in
    let distinct = subst (λ l. IsDistinct bytes_eq (key_bytes l)) (sym c.into_parts-texts.ensures.texts) c.into_parts-texts.ensures.distinct in (
      c.requires ∙ ap (λ l. index_of (key_bytes l)) (sym c.into_parts-texts.ensures.texts),
      distinct,
      c.clear.ensures.items,
      (let long = order_length parts.0.items parts.1.items (c.into_parts-texts.ensures.order ∙ ap (λ l. places_of (key_bytes l)) (sym c.into_parts-texts.ensures.texts)) distinct in let ok = parts.1.ok in let kept = c.clear.ensures.capacity in let len = ok.0 in let cap = ok.1 in omega (arith, long, kept, len, cap)),
    )

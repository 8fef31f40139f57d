use Rattle.std.proofs.Common.{◌≡◌, None, ◌++◌, ◌∷◌, [], string_bytes, bytes_eq, sym, ap, ◌∙◌, subst, position, length, length-append, arith}
use Rattle.std.specs.FinMap.Entries.{find}
use Rattle.std.specs.List.{IsDistinct}
use Rattle.bson_pairs.specs.Ascending.{key_cmp}
use Rattle.bson_pairs.specs.Index.{index_of, is_key}
use Rattle.bson_pairs.specs.Keyed.{key_bytes}
use Rattle.bson_pairs.proofs.IndexLemmas.{find-index}
use Rattle.bson_pairs.proofs.GrowthLemmas.{tree-push, distinct-pushed}
use Rattle.bson_pairs.proofs.growing_keys.GrowingKeys.push.Goals as goal

pub invariant_of-self-2 : goal.invariant_of-self-2
invariant_of-self-2 c =
    let i = c.self.inside in
    let ts = i.texts.items in
    let t = c.args.key in
    let gone : find key_cmp (string_bytes t) (index_of (key_bytes ts)) ≡ None = find-index (string_bytes t) ts ∙ ap (position (is_key (string_bytes t))) c.self.view_is ∙ sym c.requires in
    let grown = c.in_ok-push.ensures.items ∙ ap (λ l. l ++ t ∷ []) c.in_ok-reserve.ensures.items in (
      tree-push ts t c.in_ok-clone.field-0 i.places.entries c.insert.new.self.entries c.len-place.result c.self.invariant.0 gone c.in_ok-clone.ensures.cases (c.len-place.ensures ∙ i.texts.ok.0) c.in_ok-insert.ensures.entries
          ∙ ap (λ l. index_of (key_bytes l)) (sym grown),
      subst (λ l. IsDistinct bytes_eq (key_bytes l)) (sym grown) (distinct-pushed ts t c.self.invariant.1 gone),
      c.in_ok-reserve-2.ensures.items ∙ c.self.invariant.2,
      (let room = c.in_ok-reserve-2.ensures.ok in let place = c.len-place.ensures ∙ i.texts.ok.0 in let long = ap length grown ∙ length-append ts (t ∷ []) in omega (arith, room, place, long)),
    )

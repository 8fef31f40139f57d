use Rattle.std.proofs.Common.{◌≡◌, ◌<◌, length, map, IfOk, IfErr, position, sym, ap, ◌∙◌, subst}
use Rattle.std.proofs.Math.ListN.{length-map}
use Rattle.bson_pairs.specs.Index.{is_key, place_without, IsIndexedAt, GoesAt}
use Rattle.bson_pairs.specs.Keyed.{key_bytes}
use Rattle.bson_pairs.proofs.IndexLemmas.{found_position, found_within, gone_position, removed, front}
use Rattle.bson_pairs.proofs.keys.Keys.remove.Goals as goal

pub remove-requires : goal.remove-requires
remove-requires c =
    let i = c.self.inside in
    let k = c.args.key.now in
    let stands = subst (λ us. IsIndexedAt k c.in-Ok.at (key_bytes us)) c.as_slice.ensures.value (subst (λ r. IfOk r (λ j. IsIndexedAt k j (key_bytes c.as_slice.result.now))) c.in-Ok.is c.search.ensures.stands) in
    subst (λ n. c.remove-place.result < n) (sym i.texts.ok.0) (found_within i.texts.items k i.order.items c.in-Ok.at c.remove-place.result c.self.invariant.0 stands c.remove-place.ensures.value)

pub invariant_of-self : goal.invariant_of-self
invariant_of-self c =
    let i = c.self.inside in
    let k = c.args.key.now in
    let stands = subst (λ us. IsIndexedAt k c.in-Ok.at (key_bytes us)) c.as_slice.ensures.value (subst (λ r. IfOk r (λ j. IsIndexedAt k j (key_bytes c.as_slice.result.now))) c.in-Ok.is c.search.ensures.stands) in
    let left = c.remove-place.new.self in
    let moved : c.lower.new.order ≡ map (place_without c.remove-place.result) left.items = c.lower.ensures ∙ ap (map (place_without c.remove-place.result)) c.as_mut_slice.ensures.value in
    let long : left.len ≡ length c.lower.new.order = left.ok.0 ∙ sym (length-map left.items (place_without c.remove-place.result)) ∙ sym (ap length moved) in
    removed i.texts.items c.remove.new.self.items k i.order.items _ c.in-Ok.at c.remove-place.result c.self.invariant.0 c.self.invariant.1 stands c.remove-place.ensures.value c.remove.ensures.items
    (front left.len c.lower.new.order _ long ∙ moved ∙ ap (map (place_without c.remove-place.result)) c.remove-place.ensures.items)

pub returns-in-Ok-clause-index : goal.returns-in-Ok-clause-index
returns-in-Ok-clause-index c =
    let i = c.self.inside in
    let k = c.args.key.now in
    let stands = subst (λ us. IsIndexedAt k c.in-Ok.at (key_bytes us)) c.as_slice.ensures.value (subst (λ r. IfOk r (λ j. IsIndexedAt k j (key_bytes c.as_slice.result.now))) c.in-Ok.is c.search.ensures.stands) in
    found_position i.texts.items k i.order.items c.in-Ok.at c.remove-place.result c.self.invariant.0 stands c.remove-place.ensures.value ∙ ap (position (is_key k)) c.self.view_is

pub returns-in-Err-clause-index : goal.returns-in-Err-clause-index
returns-in-Err-clause-index c =
    let i = c.self.inside in
    let k = c.args.key.now in
    let at = c.in-Err.field-0 in
    let goes = subst (λ us. GoesAt k at (key_bytes us)) c.as_slice.ensures.value (subst (λ r. IfErr r (λ j. GoesAt k j (key_bytes c.as_slice.result.now))) c.in-Err.is c.search.ensures.goes) in
    gone_position i.texts.items k at goes ∙ ap (position (is_key k)) c.self.view_is

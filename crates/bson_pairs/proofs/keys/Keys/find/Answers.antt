use Rattle.std.proofs.Common.{◌<◌, ◌^◌, length, IfOk, IfErr, position, sym, ap, ◌∙◌, subst}
use Rattle.bson_pairs.specs.Index.{is_key, IsIndexedAt, GoesAt}
use Rattle.bson_pairs.specs.Keyed.{key_bytes}
use Rattle.bson_pairs.proofs.IndexLemmas.{found_position, found_within, gone_position, order_length}
use Rattle.bson_pairs.proofs.keys.Keys.find.Goals as goal

pub returns-in-Ok-default-clause-index : goal.returns-in-Ok-default-clause-index
returns-in-Ok-default-clause-index c =
    let i = c.self.inside in
    let k = c.args.key.now in
    let stands = subst (λ us. IsIndexedAt k c.in-Ok-default.at (key_bytes us)) c.as_slice.ensures.value (subst (λ r. IfOk r (λ j. IsIndexedAt k j (key_bytes c.as_slice.result.now))) c.in-Ok-default.is-0 c.search.ensures.stands) in
    found_position i.texts.items k i.order.items c.in-Ok-default.at c.index.result.now c.self.invariant.0 stands c.index.ensures ∙ ap (position (is_key k)) c.self.view_is

pub returns-in-Ok-default-clause-within : goal.returns-in-Ok-default-clause-within
returns-in-Ok-default-clause-within c =
    let i = c.self.inside in
    let k = c.args.key.now in
    let stands = subst (λ us. IsIndexedAt k c.in-Ok-default.at (key_bytes us)) c.as_slice.ensures.value (subst (λ r. IfOk r (λ j. IsIndexedAt k j (key_bytes c.as_slice.result.now))) c.in-Ok-default.is-0 c.search.ensures.stands) in
    subst (λ l. c.index.result.now < length l) c.self.view_is (found_within i.texts.items k i.order.items c.in-Ok-default.at c.index.result.now c.self.invariant.0 stands c.index.ensures)

pub returns-in-Ok-default-clause-compared : goal.returns-in-Ok-default-clause-compared
returns-in-Ok-default-clause-compared c =
    let i = c.self.inside in
    let long = ap length c.as_slice-2.ensures.value ∙ order_length i.texts.items i.order.items c.self.invariant.0 c.self.invariant.1 ∙ ap length c.self.view_is in
    λ d h. c.search.ensures.compared d (subst (λ n. n < 2 ^ d) (sym long) h)

pub returns-in-Err-default-clause-index : goal.returns-in-Err-default-clause-index
returns-in-Err-default-clause-index c =
    let i = c.self.inside in
    let k = c.args.key.now in
    let at = c.in-Err-default.field-0-0 in
    let goes = subst (λ us. GoesAt k at (key_bytes us)) c.as_slice.ensures.value (subst (λ r. IfErr r (λ j. GoesAt k j (key_bytes c.as_slice.result.now))) c.in-Err-default.is-0 c.search.ensures.goes) in
    gone_position i.texts.items k at goes ∙ ap (position (is_key k)) c.self.view_is

pub returns-in-Err-default-clause-compared : goal.returns-in-Err-default-clause-compared
returns-in-Err-default-clause-compared c =
    let i = c.self.inside in
    let long = ap length c.as_slice-2.ensures.value ∙ order_length i.texts.items i.order.items c.self.invariant.0 c.self.invariant.1 ∙ ap length c.self.view_is in
    λ d h. c.search.ensures.compared d (subst (λ n. n < 2 ^ d) (sym long) h)

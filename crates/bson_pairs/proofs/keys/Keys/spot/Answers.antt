use Rattle.std.proofs.Common.{◌<◌, length, IfOk, IfErr, position, ap, ◌∙◌, subst}
use Rattle.bson_pairs.specs.Index.{is_key, IsIndexedAt, GoesAt}
use Rattle.bson_pairs.specs.Keyed.{key_bytes}
use Rattle.bson_pairs.proofs.IndexLemmas.{found_position, found_within, gone_position}
use Rattle.bson_pairs.proofs.keys.Keys.spot.Goals as goal

pub returns-in-Ok-clause-index : goal.returns-in-Ok-clause-index
returns-in-Ok-clause-index c =
    let i = c.self.inside in
    let k = c.args.key.now in
    let stands = subst (λ us. IsIndexedAt k c.in-Ok.at (key_bytes us)) c.as_slice.ensures.value (subst (λ r. IfOk r (λ j. IsIndexedAt k j (key_bytes c.as_slice.result.now))) c.in-Ok.is c.search.ensures.stands) in
    found_position i.texts.items k i.order.items c.in-Ok.at c.index.result.now c.self.invariant.0 stands c.index.ensures ∙ ap (position (is_key k)) c.self.view_is

pub returns-in-Ok-clause-within : goal.returns-in-Ok-clause-within
returns-in-Ok-clause-within c =
    let i = c.self.inside in
    let k = c.args.key.now in
    let stands = subst (λ us. IsIndexedAt k c.in-Ok.at (key_bytes us)) c.as_slice.ensures.value (subst (λ r. IfOk r (λ j. IsIndexedAt k j (key_bytes c.as_slice.result.now))) c.in-Ok.is c.search.ensures.stands) in
    subst (λ l. c.index.result.now < length l) c.self.view_is (found_within i.texts.items k i.order.items c.in-Ok.at c.index.result.now c.self.invariant.0 stands c.index.ensures)

pub returns-in-Err-clause-absent : goal.returns-in-Err-clause-absent
returns-in-Err-clause-absent c =
    let i = c.self.inside in
    let k = c.args.key.now in
    let at = c.in-Err.at in
    let goes = subst (λ us. GoesAt k at (key_bytes us)) c.as_slice.ensures.value (subst (λ r. IfErr r (λ j. GoesAt k j (key_bytes c.as_slice.result.now))) c.in-Err.is c.search.ensures.goes) in
    gone_position i.texts.items k at goes ∙ ap (position (is_key k)) c.self.view_is

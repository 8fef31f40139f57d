use Rattle.std.proofs.Common.{ap, ◌∙◌}
use Rattle.std.specs.Ordering.{ordering_then}
use Rattle.bson_order.specs.Shown.{seen}
use Rattle.bson_order.proofs.KeyLemmas.{parts_compared}
use Rattle.bson_order.proofs.scalars.compare_parts.Goals as goal

pub returns : goal.returns
returns c =
    let places = c.compare_numbers-places.result in
    let counts = c.then-counts.result in
    let texts = c.then-texts.result in
    let ids = c.cmp-ids.result in
    c.then-3.ensures
    ∙ ap (λ r. ordering_then c.compare_numbers-places.result r) (c.then-2.ensures ∙ ap (λ r. ordering_then c.then-counts.result r) c.then.ensures
    ∙ ap (λ k. ordering_then k (ordering_then c.then-texts.result c.cmp-ids.result)) c.then-counts.ensures
    ∙ ap (λ t. ordering_then (ordering_then c.cmp.result c.cmp-2.result) (ordering_then t c.cmp-ids.result)) c.then-texts.ensures)
    ∙ parts_compared (seen c.args.value.now) (seen c.args.other.now) places c.cmp.result c.cmp-2.result c.cmp-3.result c.cmp-4.result ids
    c.compare_numbers-places.ensures c.cmp.ensures c.cmp-2.ensures c.cmp-3.ensures c.cmp-4.ensures c.cmp-ids.ensures

use Rattle.bson_bytes.proofs.PayloadLemmas.{ordered_options}
use Rattle.bson_bytes.proofs.elements.has_ordered_options.Goals as goal

pub returns : goal.returns
returns c u =
    ordered_options c.args.payload.now c.in-Ok.field-0-0.now c.in-Ok.rest.now c.in-Ok-name_at.options.now c.in-Ok-name_at.field-0-1.now
    c.in-Ok.ensures.0 c.in-Ok.ensures.1 c.in-Ok-name_at.ensures.0 c.in-Ok-name_at.ensures.1 (c.are_in_order.ensures u)

use Rattle.std.proofs.Common.{◌==◌, ◌∙◌, ap, length, refl}
use Rattle.json.specs.Value.{value_view}
use Rattle.fallowtime_requests.proofs.StageLemmas.{filled}
use Rattle.fallowtime_requests.proofs.staging.sort_in.Goals as goal

pub returns-else-is_empty : goal.returns-else-is_empty
returns-else-is_empty c =
    (c.in-Ok.keys, refl, c.in-Ok.ensures, filled (value_view c.args.order.now) c.in-Ok.keys.items c.is_empty.result c.in-Ok.ensures (c.is_empty.ensures ∙ ap (λ ks. length ks == 0) c.as_slice.ensures.value) c.if-is_empty.false)

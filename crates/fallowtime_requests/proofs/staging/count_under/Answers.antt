use Rattle.std.proofs.Common.{ap, refl, sym, ◌∙◌}
use Rattle.json.specs.Json.{string}
use Rattle.fallowtime_requests.specs.Staging.{is_field_name}
use Rattle.fallowtime_requests.proofs.staging.count_under.Goals as goal

pub returns-in_ok-from_str : goal.returns-in_ok-from_str
returns-in_ok-from_str c =
    let same = c.in_ok-from_str.ensures.ok in
    (c.in_ok-from_str.field-0, refl, ap string (sym same), ap is_field_name same ∙ (sym c.is_field_name.ensures ∙ c.if-is_field_name.true))

use Rattle.std.proofs.Common.{refl, subst}
use Rattle.json.specs.Value.{value_view}
use Rattle.fallowtime_requests.specs.Fields.{FieldsAre}
use Rattle.fallowtime_requests.proofs.staging.projection_in.Goals as goal

pub returns-in-Some : goal.returns-in-Some
returns-in-Some c = (c.in-Some.fields, refl, subst (λ o. FieldsAre (value_view c.args.fields.now) o) c.in-Some.is c.in-Ok.ensures)

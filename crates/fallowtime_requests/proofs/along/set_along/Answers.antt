use Rattle.std.proofs.Common.{codes, false, rules}
use Rattle.bson_model.specs.View.{view}
use Rattle.fallowtime_requests.specs.Along.{has_dot}
use Rattle.fallowtime_requests.specs.declared.request.Request.TheVariants as request
use Rattle.store_update.specs.Plan.{sets}
use Rattle.fallowtime_requests.proofs.AlongLemmas.{becomes_update}
use Rattle.fallowtime_requests.proofs.along.set_along.Goals as goal

pub returns-in-Ok : goal.returns-in-Ok
returns-in-Ok c =
    becomes_update (has_dot c.args.key.now) (request.Set c.args.id c.args.key c.args.value) c.args.id false (codes "$set") c.args.key.now (sets (view c.args.value)) c.in-Ok.steps
    (search rules) c.in-Ok.ensures

use Rattle.std.proofs.Common.{codes, true, rules}
use Rattle.fallowtime_requests.specs.Along.{has_dot}
use Rattle.fallowtime_requests.specs.declared.request.Request.TheVariants as request
use Rattle.store_update.specs.Plan.{unsets}
use Rattle.fallowtime_requests.proofs.AlongLemmas.{becomes_update}
use Rattle.fallowtime_requests.proofs.along.unset_along.Goals as goal

pub returns-in-Ok : goal.returns-in-Ok
returns-in-Ok c =
    becomes_update (has_dot c.args.key.now) (request.Unset c.args.id c.args.key) c.args.id true (codes "$unset") c.args.key.now unsets c.in-Ok.steps
    (search rules) c.in-Ok.ensures

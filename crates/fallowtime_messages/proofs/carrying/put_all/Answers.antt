use Rattle.std.proofs.Common.{refl}
use Rattle.fallowtime_messages.specs.Runs.{deed_of}
use Rattle.fallowtime_messages.proofs.carrying.put_all.Goals as goal

pub returns : goal.returns
returns g c =
    let did = c.perform_statement-outcome in
    (deed_of c.args.statement did.result, (refl, refl, did.ensures.shape), c.number_put.ensures, did.ensures.did)

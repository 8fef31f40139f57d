use Rattle.std.proofs.Common.{refl}
use Rattle.fallowtime_requests.specs.Inputs.{seen}
use Rattle.fallowtime_requests.proofs.UpsertLemmas.{stays}
use Rattle.fallowtime_requests.proofs.upserts.upserting_request.Goals as goal

pub returns-in-Ok-clause-upserts : goal.returns-in-Ok-clause-upserts
returns-in-Ok-clause-upserts c =
    let (fixed, is, made) = c.in-Ok.ensures.made in
    rw c.in-Change.is (fixed, c.in-Ok.otherwise, is, made, refl)

pub returns-in-Err-clause-upserts : goal.returns-in-Err-clause-upserts
returns-in-Err-clause-upserts c = rw (c.in-Change.is, c.given_up.ensures) (tt, c.in-Err.ensures.made)

pub returns-in-Err-clause-maker : goal.returns-in-Err-clause-maker
returns-in-Err-clause-maker c = rw c.given_up.ensures c.in-Err.ensures.maker

pub returns-in_default-clause-upserts : goal.returns-in_default-clause-upserts
returns-in_default-clause-upserts c = stays c.args.maker.now (seen c.args.query) c.args.request c.in_default.not-Change

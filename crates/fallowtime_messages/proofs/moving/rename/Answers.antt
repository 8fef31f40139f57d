use Rattle.std.specs.Prelude.{false}
use Rattle.std.proofs.Common.{refl}
use Rattle.bson_store.specs.Calls.{store_state}
use Rattle.fallowtime_requests.specs.declared.request.Request.TheVariants as request
use Rattle.fallowtime_requests.specs.declared.request.Transfer.TheVariants as transfer
use Rattle.fallowtime_messages.proofs.MovingLemmas.{was_renamed}
use Rattle.fallowtime_messages.proofs.moving.rename.Goals as goal

pub returns : goal.returns
returns g c =
    let did = c.perform-outcome in
    was_renamed c.args.name.now c.args.new.now (request.Transfer (transfer.Rename c.args.new false)) did.result (store_state g.S.Store c.args.store.now) (store_state g.S.Store did.new.store) refl did.ensures.moves did.ensures.open did.ensures.crash did.ensures.shape

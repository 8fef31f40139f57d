use Rattle.bson_store.specs.Calls.{store_state}
use Rattle.bson_store.proofs.MoveLemmas.{rests}
use Rattle.fallowtime_commands.proofs.UpsertingLemmas.{nothing_instead}
use Rattle.fallowtime_commands.proofs.session.upserting.when_none.Goals as goal

pub returns-in-Refuse-clause-moves : goal.returns-in-Refuse-clause-moves
returns-in-Refuse-clause-moves g c = rw c.in-Refuse.is (rests (store_state g.S.Store c.args.store.now) _ (λ docs. nothing_instead c.args.name.now c.in-Refuse.error c.args.edits.now.draft docs))

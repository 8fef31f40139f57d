use Rattle.bson_store.specs.Calls.{store_state}
use Rattle.bson_store.proofs.MoveLemmas.{moved}
use Rattle.fallowtime_commands.proofs.UpsertingLemmas.{instead_answered}
use Rattle.fallowtime_commands.proofs.session.upserting.put_instead.Goals as goal

pub returns-in-Ok-clause-moves : goal.returns-in-Ok-clause-moves
returns-in-Ok-clause-moves g c =
    moved (store_state g.S.Store c.args.store.now) (store_state g.S.Store c.put_in.new.store) _ _ c.in-Ok.ensures.moves
    (λ docs after h. instead_answered c.args.name.now c.args.id.now c.args.document.now c.args.edits.now.draft c.put_in.new.edits.draft docs after c.upserted.result c.upserted.ensures h)

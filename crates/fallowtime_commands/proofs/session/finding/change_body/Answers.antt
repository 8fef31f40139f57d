use Rattle.bson_store.proofs.MoveLemmas.{moved, rests}
use Rattle.bson_store.specs.Calls.{store_state}
use Rattle.fallowtime_commands.proofs.FoundLemmas.{body_changed, body_unmade}
use Rattle.fallowtime_commands.proofs.session.finding.change_body.Goals as goal

pub returns-in-Ok-clause-moves : goal.returns-in-Ok-clause-moves
returns-in-Ok-clause-moves g c =
    moved (store_state g.S.Store c.args.store.now) (store_state g.S.Store c.put_drafted.new.store) _ _ c.put_drafted.ensures.moves
    (λ docs after h. body_changed c.args.name.now c.args.wanted.now c.args.work.now c.args.body.now c.in-Ok.drafted.edits.items c.in-Ok.drafted.returned c.in-Ok.ensures.drafts c.args.edits.now.draft c.put_drafted.new.edits.draft docs after c.put_drafted.result h)

pub returns-in-Err-clause-moves : goal.returns-in-Err-clause-moves
returns-in-Err-clause-moves g c =
    rw c.reason_of.ensures (rests (store_state g.S.Store c.args.store.now) _ (λ docs. body_unmade c.args.name.now c.args.wanted.now c.args.work.now c.args.body.now c.in-Err.unmade c.args.edits.now.draft docs c.in-Err.ensures.drafts))

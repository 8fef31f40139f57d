use Rattle.bson_store.proofs.MoveLemmas.{moved, moved_twice}
use Rattle.bson_store.specs.Calls.{store_state}
use Rattle.fallowtime_commands.proofs.ChangingLemmas.{change_found, change_unfound}
use Rattle.fallowtime_commands.proofs.session.changing.change.Goals as goal

pub returns-in-Err-clause-moves : goal.returns-in-Err-clause-moves
returns-in-Err-clause-moves g c =
    moved (store_state g.S.Store c.args.store.now) (store_state g.S.Store c.find_meant.new.store) _ _ c.in-Err.ensures.moves
    (λ docs after h. change_unfound c.args.name.now c.args.question.now c.args.work.now c.args.many c.in-Err.error c.args.edits.now.draft docs after h)

pub returns-clause-moves : goal.returns-clause-moves
returns-clause-moves g c =
    moved_twice (store_state g.S.Store c.args.store.now) (store_state g.S.Store c.find_meant.new.store) (store_state g.S.Store c.change_bodies.new.store) _ _ _ c.in-Ok.ensures.moves c.change_bodies.ensures.moves
    (λ docs mid after h k. change_found c.args.name.now c.args.question.now c.args.work.now c.args.many c.in-Ok.bodies c.change_bodies.result c.args.edits.now.draft c.change_bodies.new.edits.draft docs mid after h k)

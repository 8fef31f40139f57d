use Rattle.bson_store.proofs.MoveLemmas.{moved, moved_twice}
use Rattle.bson_store.specs.Calls.{store_state}
use Rattle.fallowtime_commands.proofs.FoundLemmas.{found_changed, found_none, found_refused}
use Rattle.fallowtime_commands.proofs.session.finding.find_and_change.Goals as goal

pub returns-in-Err-clause-moves : goal.returns-in-Err-clause-moves
returns-in-Err-clause-moves g c =
    moved (store_state g.S.Store c.args.store.now) (store_state g.S.Store c.find_first.new.store) _ _ c.in-Err.ensures.moves
    (λ docs after h. found_refused c.args.name.now c.args.question.now c.args.wanted.now c.args.work.now c.in-Err.error c.args.edits.now.draft docs after h)

pub returns-in-Some-clause-moves : goal.returns-in-Some-clause-moves
returns-in-Some-clause-moves g c =
    moved_twice (store_state g.S.Store c.args.store.now) (store_state g.S.Store c.find_first.new.store) (store_state g.S.Store c.change_body.new.store) _ _ _ c.in-Ok.ensures.moves c.change_body.ensures.moves
    (λ docs mid after h k. found_changed c.args.name.now c.args.question.now c.args.wanted.now c.args.work.now c.in-Ok.bodies c.in-Some.body.now c.change_body.result c.args.edits.now.draft c.change_body.new.edits.draft docs mid after (rw c.as_slice.ensures.value at c.in-Some.ensures) h k)

pub returns-clause-moves : goal.returns-clause-moves
returns-clause-moves g c =
    moved (store_state g.S.Store c.args.store.now) (store_state g.S.Store c.find_first.new.store) _ _ c.in-Ok.ensures.moves
    (λ docs after h. found_none c.args.name.now c.args.question.now c.args.wanted.now c.args.work.now c.in-Ok.bodies c.args.edits.now.draft docs after (rw c.as_slice.ensures.value at c.in-None.ensures) h)

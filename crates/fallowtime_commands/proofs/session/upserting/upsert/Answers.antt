use Rattle.bson_store.specs.Calls.{store_state}
use Rattle.bson_store.proofs.MoveLemmas.{moved, moved_twice}
use Rattle.fallowtime_commands.proofs.UpsertLemmas.{none_by, some_by}
use Rattle.fallowtime_commands.proofs.UpsertingLemmas.{upsert_changed, upsert_ended, upsert_unfound}
use Rattle.fallowtime_commands.proofs.session.upserting.upsert.Goals as goal

pub returns-in-Err-clause-moves : goal.returns-in-Err-clause-moves
returns-in-Err-clause-moves g c =
    moved (store_state g.S.Store c.args.store.now) (store_state g.S.Store c.find_meant.new.store) _ _ c.in-Err.ensures.moves
    (λ docs after h. upsert_unfound c.args.name.now c.args.question.now c.args.work.now c.args.many c.args.otherwise.now c.in-Err.error c.args.edits.now.draft docs after h)

pub returns-then-is_empty-clause-moves : goal.returns-then-is_empty-clause-moves
returns-then-is_empty-clause-moves g c =
    moved_twice (store_state g.S.Store c.args.store.now) (store_state g.S.Store c.find_meant.new.store) (store_state g.S.Store c.when_none.new.store) _ _ _ c.in-Ok.ensures.moves c.when_none.ensures.moves
    (λ docs mid after h k. upsert_ended c.args.name.now c.args.question.now c.args.work.now c.args.many c.args.otherwise.now c.in-Ok.bodies c.when_none.result c.args.edits.now.draft c.when_none.new.edits.draft docs mid after h (none_by c.is_empty.result _ _ c.is_empty.ensures c.in-Ok.bodies.ok.0 c.if-is_empty.true) k)

pub returns-clause-moves : goal.returns-clause-moves
returns-clause-moves g c =
    moved_twice (store_state g.S.Store c.args.store.now) (store_state g.S.Store c.find_meant.new.store) (store_state g.S.Store c.change_bodies.new.store) _ _ _ c.in-Ok.ensures.moves c.change_bodies.ensures.moves
    (λ docs mid after h k. upsert_changed c.args.name.now c.args.question.now c.args.work.now c.args.many c.args.otherwise.now c.in-Ok.bodies c.change_bodies.result c.args.edits.now.draft c.change_bodies.new.edits.draft docs mid after h (some_by c.is_empty.result _ _ c.is_empty.ensures c.in-Ok.bodies.ok.0 c.if-is_empty.false) k)

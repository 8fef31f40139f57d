use Rattle.std.proofs.Common.{rules, get_or, map, pos, subst, w64}
use Rattle.std.proofs.lemmas.Int.{to_z-of_z}
use Rattle.std.proofs.lemmas.List.{drop_all}
use Rattle.bson_model.specs.View.{view}
use Rattle.fallowtime_messages.specs.Waiting.{waiting}
use Rattle.fallowtime_messages.proofs.BatchLemmas.{GoesOn, all_closed, one_closed}
use Rattle.fallowtime_messages.proofs.batches.tell_closed.Goals as goal

pub loop-id-preserved : goal.loop-id-preserved
loop-id-preserved c =
    let l = c.loop-id in
    one_closed c.args.space.now c.args.ids.now (waiting c.args.cursors.now) l.id-index _ (pos 0) c.close-is.result _ _ _ _ (waiting l.cursors) (waiting c.close-is.new.self) c.loop-id-test.true (to_z-of_z w64 (get_or c.args.ids.now l.id-index (pos 0)) (search rules)) c.close-is.ensures c.in_ok-push_number.ensures c.in_ok-push_number-2.ensures l.invariant

pub returns : goal.returns
returns c =
    let l = c.loop-id in
    all_closed c.args.space.now c.args.ids.now (waiting c.args.cursors.now) (waiting l.cursors) (map view l.killed.items) (map view l.missing.items) c.closed.result
    (subst (λ left. GoesOn c.args.space.now c.args.ids.now (waiting c.args.cursors.now) left (map view l.killed.items) (map view l.missing.items) (waiting l.cursors)) (drop_all l.id-index c.args.ids.now c.loop-id-test.false) l.invariant)
    c.closed.ensures

use Rattle.std.proofs.Common.{Err, ◌∙◌}
use Rattle.std.proofs.lemmas.Result.{err_from_is_err_and}
use Rattle.bson_store.specs.Calls.{store_state}
use Rattle.store_question.specs.Reads.{form_of}
use Rattle.fallowtime_commands.specs.Performing.{reply_of}
use Rattle.fallowtime_commands.proofs.ChangeLemmas.{found_still, found_then, outcome_refused, unmade_is_change}
use Rattle.fallowtime_commands.proofs.UpsertLemmas.{applied_leaves, applied_moves, as_ended, as_upsert, ended_leaves, ended_moves, found_end, none_by, refused_leaves, some_by, unfound_moves, unmade_moves}
use Rattle.fallowtime_commands.proofs.upserting.upsert.Goals as goal

pub returns-in_err-bodies-clause-moves : goal.returns-in_err-bodies-clause-moves
returns-in_err-bodies-clause-moves g c =
    let p = err_from_is_err_and c.from_residual.result c.from_residual.ensures.1 in
    rw (p.1, p.2) (unfound_moves c.args.name.now (form_of c.args.question.now) c.args.work.now c.args.many c.args.otherwise.now (store_state g.S.Store c.args.store.now) (store_state g.S.Store c.find_meant.new.store) c.in_err-bodies.field-0.0 _ c.in_err-bodies.ensures.moves)

pub returns-in_err-bodies-clause-crash : goal.returns-in_err-bodies-clause-crash
returns-in_err-bodies-clause-crash g c =
    let p = err_from_is_err_and c.from_residual.result c.from_residual.ensures.1 in
    rw p.1 (refused_leaves c.args.name.now (form_of c.args.question.now) c.args.work.now c.args.many c.args.otherwise.now (store_state g.S.Store c.args.store.now) (store_state g.S.Store c.find_meant.new.store) (reply_of (Err p.0)) tt c.in_err-bodies.ensures.crash)

pub returns-then-is_empty-clause-moves : goal.returns-then-is_empty-clause-moves
returns-then-is_empty-clause-moves g c =
    ended_moves c.args.name.now (form_of c.args.question.now) c.args.work.now c.args.many c.in_ok-bodies.bodies (none_by c.is_empty.result _ _ c.is_empty.ensures c.in_ok-bodies.bodies.ok.0 c.if-is_empty.true)
    (store_state g.S.Store c.args.store.now) (store_state g.S.Store c.find_meant.new.store) (store_state g.S.Store c.when_none.new.store) c.args.otherwise.now c.when_none.result (reply_of c.when_none.result) c.in_ok-bodies.ensures.moves c.when_none.ensures.moves

pub returns-then-is_empty-clause-crash : goal.returns-then-is_empty-clause-crash
returns-then-is_empty-clause-crash g c =
    ended_leaves c.args.name.now (form_of c.args.question.now) c.args.work.now c.args.many c.in_ok-bodies.bodies (none_by c.is_empty.result _ _ c.is_empty.ensures c.in_ok-bodies.bodies.ok.0 c.if-is_empty.true)
    (store_state g.S.Store c.args.store.now) (store_state g.S.Store c.find_meant.new.store) (store_state g.S.Store c.when_none.new.store) c.args.otherwise.now c.when_none.result (reply_of c.when_none.result) c.in_ok-bodies.ensures.moves c.in_ok-bodies.ensures.crash c.when_none.ensures.moves c.when_none.ensures.crash

pub returns-then-is_empty-clause-open : goal.returns-then-is_empty-clause-open
returns-then-is_empty-clause-open g c =
    found_end (store_state g.S.Store c.args.store.now) (store_state g.S.Store c.find_meant.new.store) (store_state g.S.Store c.when_none.new.store) c.in_ok-bodies.bodies _ _ c.when_none.result c.in_ok-bodies.ensures.moves c.when_none.ensures.moves c.in_ok-bodies.ensures.open c.when_none.ensures.open

pub returns-then-is_empty-clause-shape : goal.returns-then-is_empty-clause-shape
returns-then-is_empty-clause-shape g c = as_ended c.args.work.now c.args.otherwise.now c.when_none.result c.when_none.ensures.shape

pub returns-in-Ok-clause-moves : goal.returns-in-Ok-clause-moves
returns-in-Ok-clause-moves g c =
    applied_moves c.args.name.now (form_of c.args.question.now) c.args.work.now c.args.many c.args.otherwise.now c.in_ok-bodies.bodies (some_by c.is_empty.result _ _ c.is_empty.ensures c.in_ok-bodies.bodies.ok.0 c.if-is_empty.false)
    (store_state g.S.Store c.args.store.now) (store_state g.S.Store c.find_meant.new.store) (store_state g.S.Store c.apply-done.new.store)
    c.in-Ok.edits.items c.len.result c.apply-done.result _ (c.len.ensures ∙ c.in_ok-bodies.bodies.ok.0) (rw c.as_slice.ensures.value at c.in-Ok.ensures.edits)
    c.in_ok-bodies.ensures.moves (rw c.as_slice-in-Ok.ensures.value at c.apply-done.ensures.moves)

pub returns-in-Ok-clause-crash : goal.returns-in-Ok-clause-crash
returns-in-Ok-clause-crash g c =
    applied_leaves c.args.name.now (form_of c.args.question.now) c.args.work.now c.args.many c.args.otherwise.now c.in_ok-bodies.bodies (some_by c.is_empty.result _ _ c.is_empty.ensures c.in_ok-bodies.bodies.ok.0 c.if-is_empty.false)
    (store_state g.S.Store c.args.store.now) (store_state g.S.Store c.find_meant.new.store) (store_state g.S.Store c.apply-done.new.store)
    c.in-Ok.edits.items _ c.apply-done.result (rw c.as_slice.ensures.value at c.in-Ok.ensures.edits)
    c.in_ok-bodies.ensures.moves c.in_ok-bodies.ensures.crash (rw c.as_slice-in-Ok.ensures.value at c.apply-done.ensures.moves) (rw c.as_slice-in-Ok.ensures.value at c.apply-done.ensures.crash)

pub returns-in-Ok-clause-open : goal.returns-in-Ok-clause-open
returns-in-Ok-clause-open g c =
    found_then (store_state g.S.Store c.args.store.now) (store_state g.S.Store c.find_meant.new.store) (store_state g.S.Store c.apply-done.new.store) _ _ c.apply-done.result c.in_ok-bodies.ensures.moves c.apply-done.ensures.moves c.apply-done.ensures.open

pub returns-in-Ok-clause-shape : goal.returns-in-Ok-clause-shape
returns-in-Ok-clause-shape g c = as_upsert c.args.work.now c.args.otherwise.now c.apply-done.result c.apply-done.ensures.shape

pub returns-clause-moves : goal.returns-clause-moves
returns-clause-moves g c =
    rw c.outcome_of.ensures
    (unmade_moves c.args.name.now (form_of c.args.question.now) c.args.work.now c.args.many c.args.otherwise.now c.in_ok-bodies.bodies (some_by c.is_empty.result _ _ c.is_empty.ensures c.in_ok-bodies.bodies.ok.0 c.if-is_empty.false)
    (store_state g.S.Store c.args.store.now) (store_state g.S.Store c.find_meant.new.store)
    c.in-Err.unmade _ (rw c.as_slice.ensures.value at c.in-Err.ensures.edits) c.in_ok-bodies.ensures.moves)

pub returns-clause-crash : goal.returns-clause-crash
returns-clause-crash g c =
    rw c.outcome_of.ensures
    (refused_leaves c.args.name.now (form_of c.args.question.now) c.args.work.now c.args.many c.args.otherwise.now (store_state g.S.Store c.args.store.now) (store_state g.S.Store c.find_meant.new.store) _ (outcome_refused c.in-Err.unmade) c.in_ok-bodies.ensures.crash)

pub returns-clause-open : goal.returns-clause-open
returns-clause-open g c = found_still (store_state g.S.Store c.args.store.now) (store_state g.S.Store c.find_meant.new.store) c.in_ok-bodies.bodies c.outcome_of.result c.in_ok-bodies.ensures.open

pub returns-clause-shape : goal.returns-clause-shape
returns-clause-shape g c = rw c.outcome_of.ensures (as_upsert c.args.work.now c.args.otherwise.now _ (unmade_is_change c.args.work.now c.in-Err.unmade c.in-Err.ensures.shape))

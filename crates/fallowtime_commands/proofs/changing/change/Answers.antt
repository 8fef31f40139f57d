use Rattle.std.proofs.Common.{Err, ◌∙◌}
use Rattle.std.proofs.lemmas.Result.{err_from_is_err_and}
use Rattle.store_question.specs.Reads.{form_of}
use Rattle.bson_store.specs.Calls.{store_state}
use Rattle.fallowtime_commands.specs.Performing.{reply_of}
use Rattle.fallowtime_commands.proofs.ChangeLemmas.{applied_leaves, applied_moves, found_still, found_then, outcome_refused, refused_leaves, unfound_moves, unmade_is_change, unmade_moves}
use Rattle.fallowtime_commands.proofs.changing.change.Goals as goal

pub returns-in_err-bodies-clause-moves : goal.returns-in_err-bodies-clause-moves
returns-in_err-bodies-clause-moves g c =
    let p = err_from_is_err_and c.from_residual.result c.from_residual.ensures.1 in
    rw (p.1, p.2) (unfound_moves c.args.name.now (form_of c.args.question.now) c.args.work.now c.args.many (store_state g.S.Store c.args.store.now) (store_state g.S.Store c.find_meant.new.store) c.in_err-bodies.field-0.0 c.in_err-bodies.ensures.moves)

pub returns-in_err-bodies-clause-crash : goal.returns-in_err-bodies-clause-crash
returns-in_err-bodies-clause-crash g c =
    let p = err_from_is_err_and c.from_residual.result c.from_residual.ensures.1 in
    rw p.1 (refused_leaves c.args.name.now (form_of c.args.question.now) c.args.work.now c.args.many (store_state g.S.Store c.args.store.now) (store_state g.S.Store c.find_meant.new.store) (reply_of (Err p.0)) tt c.in_err-bodies.ensures.crash)

pub returns-in-Ok-clause-moves : goal.returns-in-Ok-clause-moves
returns-in-Ok-clause-moves g c =
    applied_moves c.args.name.now (form_of c.args.question.now) c.args.work.now c.args.many (store_state g.S.Store c.args.store.now) (store_state g.S.Store c.find_meant.new.store) (store_state g.S.Store c.apply-done.new.store)
    c.in_ok-bodies.bodies c.in-Ok.edits.items c.len.result c.apply-done.result (c.len.ensures ∙ c.in_ok-bodies.bodies.ok.0) (rw c.as_slice.ensures.value at c.in-Ok.ensures.edits)
    c.in_ok-bodies.ensures.moves (rw c.as_slice-in-Ok.ensures.value at c.apply-done.ensures.moves)

pub returns-in-Ok-clause-crash : goal.returns-in-Ok-clause-crash
returns-in-Ok-clause-crash g c =
    applied_leaves c.args.name.now (form_of c.args.question.now) c.args.work.now c.args.many (store_state g.S.Store c.args.store.now) (store_state g.S.Store c.find_meant.new.store) (store_state g.S.Store c.apply-done.new.store)
    c.in_ok-bodies.bodies c.in-Ok.edits.items _ c.apply-done.result (rw c.as_slice.ensures.value at c.in-Ok.ensures.edits)
    c.in_ok-bodies.ensures.moves c.in_ok-bodies.ensures.crash (rw c.as_slice-in-Ok.ensures.value at c.apply-done.ensures.moves) (rw c.as_slice-in-Ok.ensures.value at c.apply-done.ensures.crash)

pub returns-in-Ok-clause-open : goal.returns-in-Ok-clause-open
returns-in-Ok-clause-open g c =
    found_then (store_state g.S.Store c.args.store.now) (store_state g.S.Store c.find_meant.new.store) (store_state g.S.Store c.apply-done.new.store) _ _ c.apply-done.result c.in_ok-bodies.ensures.moves c.apply-done.ensures.moves c.apply-done.ensures.open

pub returns-clause-moves : goal.returns-clause-moves
returns-clause-moves g c =
    rw c.outcome_of.ensures
    (unmade_moves c.args.name.now (form_of c.args.question.now) c.args.work.now c.args.many (store_state g.S.Store c.args.store.now) (store_state g.S.Store c.find_meant.new.store)
    c.in_ok-bodies.bodies c.in-Err.unmade (rw c.as_slice.ensures.value at c.in-Err.ensures.edits) c.in_ok-bodies.ensures.moves)

pub returns-clause-crash : goal.returns-clause-crash
returns-clause-crash g c =
    rw c.outcome_of.ensures
    (refused_leaves c.args.name.now (form_of c.args.question.now) c.args.work.now c.args.many (store_state g.S.Store c.args.store.now) (store_state g.S.Store c.find_meant.new.store) _ (outcome_refused c.in-Err.unmade) c.in_ok-bodies.ensures.crash)

pub returns-clause-open : goal.returns-clause-open
returns-clause-open g c = found_still (store_state g.S.Store c.args.store.now) (store_state g.S.Store c.find_meant.new.store) c.in_ok-bodies.bodies c.outcome_of.result c.in_ok-bodies.ensures.open

pub returns-clause-shape : goal.returns-clause-shape
returns-clause-shape g c = rw c.outcome_of.ensures (unmade_is_change c.args.work.now c.in-Err.unmade c.in-Err.ensures.shape)

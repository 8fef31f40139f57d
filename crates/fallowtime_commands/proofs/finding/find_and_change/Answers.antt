use Rattle.std.proofs.Common.{Err, None, Ok}
use Rattle.std.proofs.lemmas.Result.{err_from_is_err_and}
use Rattle.store_question.specs.Reads.{form_of}
use Rattle.bson_store.specs.Calls.{store_state}
use Rattle.fallowtime_commands.specs.Performing.{reply_of}
use Rattle.fallowtime_commands.specs.declared.answer.Answer.TheVariants.{Found}
use Rattle.fallowtime_commands.proofs.ChangeLemmas.{found_still, found_then, outcome_refused}
use Rattle.fallowtime_commands.proofs.FindingLemmas.{applied_leaves, applied_moves, as_found, none_leaves, none_moves, refused_leaves, unfound_moves, unmade_is, unmade_moves}
use Rattle.fallowtime_commands.proofs.finding.find_and_change.Goals as goal

pub returns-in_err-bodies-clause-moves : goal.returns-in_err-bodies-clause-moves
returns-in_err-bodies-clause-moves g c =
    let p = err_from_is_err_and c.from_residual.result c.from_residual.ensures.1 in
    rw (p.1, p.2) (unfound_moves c.args.name.now (form_of c.args.question.now) c.args.wanted.now c.args.work.now (store_state g.S.Store c.args.store.now) (store_state g.S.Store c.find_first.new.store) c.in_err-bodies.field-0.0 c.in_err-bodies.ensures.moves)

pub returns-in_err-bodies-clause-crash : goal.returns-in_err-bodies-clause-crash
returns-in_err-bodies-clause-crash g c =
    let p = err_from_is_err_and c.from_residual.result c.from_residual.ensures.1 in
    rw p.1 (refused_leaves c.args.name.now (form_of c.args.question.now) c.args.wanted.now c.args.work.now (store_state g.S.Store c.args.store.now) (store_state g.S.Store c.find_first.new.store) (reply_of (Err p.0)) tt c.in_err-bodies.ensures.crash)

pub returns-in_default-clause-moves : goal.returns-in_default-clause-moves
returns-in_default-clause-moves g c =
    none_moves c.args.name.now (form_of c.args.question.now) c.args.wanted.now c.args.work.now (store_state g.S.Store c.args.store.now) (store_state g.S.Store c.find_first.new.store)
    c.in_ok-bodies.bodies (rw c.as_slice.ensures.value at c.in_default.ensures) c.in_ok-bodies.ensures.moves

pub returns-in_default-clause-crash : goal.returns-in_default-clause-crash
returns-in_default-clause-crash g c =
    none_leaves c.args.name.now (form_of c.args.question.now) c.args.wanted.now c.args.work.now (store_state g.S.Store c.args.store.now) (store_state g.S.Store c.find_first.new.store)
    (reply_of (Ok (Found None))) c.in_ok-bodies.bodies (rw c.as_slice.ensures.value at c.in_default.ensures) c.in_ok-bodies.ensures.moves c.in_ok-bodies.ensures.crash

pub returns-in_default-clause-open : goal.returns-in_default-clause-open
returns-in_default-clause-open g c = found_still (store_state g.S.Store c.args.store.now) (store_state g.S.Store c.find_first.new.store) c.in_ok-bodies.bodies (Ok (Found None)) c.in_ok-bodies.ensures.open

pub returns-in-Ok-clause-moves : goal.returns-in-Ok-clause-moves
returns-in-Ok-clause-moves g c =
    applied_moves c.args.name.now (form_of c.args.question.now) c.args.wanted.now c.args.work.now (store_state g.S.Store c.args.store.now) (store_state g.S.Store c.find_first.new.store) (store_state g.S.Store c.apply_draft.new.store)
    c.in_ok-bodies.bodies c.in-Some.body.now c.in-Ok.drafted.edits.items c.in-Ok.drafted.returned c.apply_draft.result (rw c.as_slice.ensures.value at c.in-Some.ensures) c.in-Ok.ensures.drafts
    c.in_ok-bodies.ensures.moves c.apply_draft.ensures.moves

pub returns-in-Ok-clause-crash : goal.returns-in-Ok-clause-crash
returns-in-Ok-clause-crash g c =
    applied_leaves c.args.name.now (form_of c.args.question.now) c.args.wanted.now c.args.work.now (store_state g.S.Store c.args.store.now) (store_state g.S.Store c.find_first.new.store) (store_state g.S.Store c.apply_draft.new.store)
    c.in_ok-bodies.bodies c.in-Some.body.now c.in-Ok.drafted.edits.items c.in-Ok.drafted.returned c.apply_draft.result (rw c.as_slice.ensures.value at c.in-Some.ensures) c.in-Ok.ensures.drafts
    c.in_ok-bodies.ensures.moves c.in_ok-bodies.ensures.crash c.apply_draft.ensures.moves c.apply_draft.ensures.crash

pub returns-in-Ok-clause-open : goal.returns-in-Ok-clause-open
returns-in-Ok-clause-open g c =
    found_then (store_state g.S.Store c.args.store.now) (store_state g.S.Store c.find_first.new.store) (store_state g.S.Store c.apply_draft.new.store) _ _ c.apply_draft.result c.in_ok-bodies.ensures.moves c.apply_draft.ensures.moves c.apply_draft.ensures.open

pub returns-in-Ok-clause-shape : goal.returns-in-Ok-clause-shape
returns-in-Ok-clause-shape g c = as_found c.args.work.now c.in-Ok.drafted.returned c.apply_draft.result c.apply_draft.ensures.shape

pub returns-clause-moves : goal.returns-clause-moves
returns-clause-moves g c =
    rw c.outcome_of.ensures
    (unmade_moves c.args.name.now (form_of c.args.question.now) c.args.wanted.now c.args.work.now (store_state g.S.Store c.args.store.now) (store_state g.S.Store c.find_first.new.store)
    c.in_ok-bodies.bodies c.in-Some.body.now c.in-Err.unmade (rw c.as_slice.ensures.value at c.in-Some.ensures) c.in-Err.ensures.drafts c.in_ok-bodies.ensures.moves)

pub returns-clause-crash : goal.returns-clause-crash
returns-clause-crash g c =
    rw c.outcome_of.ensures
    (refused_leaves c.args.name.now (form_of c.args.question.now) c.args.wanted.now c.args.work.now (store_state g.S.Store c.args.store.now) (store_state g.S.Store c.find_first.new.store) _ (outcome_refused c.in-Err.unmade) c.in_ok-bodies.ensures.crash)

pub returns-clause-open : goal.returns-clause-open
returns-clause-open g c = found_still (store_state g.S.Store c.args.store.now) (store_state g.S.Store c.find_first.new.store) c.in_ok-bodies.bodies c.outcome_of.result c.in_ok-bodies.ensures.open

pub returns-clause-shape : goal.returns-clause-shape
returns-clause-shape g c = rw c.outcome_of.ensures (unmade_is c.args.work.now c.in-Err.unmade c.in-Err.ensures.shape)

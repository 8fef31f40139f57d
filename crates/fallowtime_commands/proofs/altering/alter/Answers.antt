use Rattle.std.proofs.Common.{Err, map}
use Rattle.std.proofs.lemmas.Result.{err_from_is_err_and}
use Rattle.bson_model.specs.View.{view}
use Rattle.bson_store.specs.Calls.{store_state}
use Rattle.store_update.specs.Plan.{plan_of}
use Rattle.fallowtime_commands.specs.Performing.{reply_of}
use Rattle.fallowtime_commands.proofs.AlterLemmas.{applied_leaves, applied_moves, as_altered, refused_leaves, ungot_moves, unmade_is, unmade_moves}
use Rattle.fallowtime_commands.proofs.ChangeLemmas.{outcome_refused}
use Rattle.fallowtime_commands.proofs.altering.alter.Goals as goal

pub returns-in_err-body-clause-moves : goal.returns-in_err-body-clause-moves
returns-in_err-body-clause-moves g c =
    let p = err_from_is_err_and c.from_residual.result c.from_residual.ensures.1 in
    rw (p.1, p.2) (ungot_moves c.args.name.now (view c.args.id.now) (map plan_of c.args.steps.now) c.args.told (store_state g.S.Store c.args.store.now) (store_state g.S.Store c.get_raw.new.self) c.in_err-body.field-0.0 c.in_err-body.ensures.moves)

pub returns-in-Ok-clause-moves : goal.returns-in-Ok-clause-moves
returns-in-Ok-clause-moves g c =
    applied_moves c.args.name.now (view c.args.id.now) (map plan_of c.args.steps.now) c.args.told (store_state g.S.Store c.args.store.now) (store_state g.S.Store c.get_raw.new.self) (store_state g.S.Store c.make-done.new.store)
    c.in_ok-body.body.items c.in-Ok.edits.items c.make-done.result (λ d kept is. c.in-Ok.ensures d kept (rw c.as_slice.ensures.value is)) c.in_ok-body.ensures.moves (rw c.as_slice-in-Ok.ensures.value at c.make-done.ensures.moves)

pub returns-in-Ok-clause-crash : goal.returns-in-Ok-clause-crash
returns-in-Ok-clause-crash g c =
    applied_leaves c.args.name.now (view c.args.id.now) (map plan_of c.args.steps.now) c.args.told (store_state g.S.Store c.args.store.now) (store_state g.S.Store c.get_raw.new.self) (store_state g.S.Store c.make-done.new.store)
    c.in_ok-body.body.items c.in-Ok.edits.items c.make-done.result (λ d kept is. c.in-Ok.ensures d kept (rw c.as_slice.ensures.value is)) c.in_ok-body.ensures.moves c.in_ok-body.ensures.crash
    (rw c.as_slice-in-Ok.ensures.value at c.make-done.ensures.moves) (rw c.as_slice-in-Ok.ensures.value at c.make-done.ensures.crash)

pub returns-in-Ok-clause-shape : goal.returns-in-Ok-clause-shape
returns-in-Ok-clause-shape g c = as_altered c.args.told c.as_slice-in-Ok.result.now c.make-done.result c.make-done.ensures.shape

pub returns-clause-moves : goal.returns-clause-moves
returns-clause-moves g c =
    rw c.outcome_of.ensures
    (unmade_moves c.args.name.now (view c.args.id.now) (map plan_of c.args.steps.now) c.args.told (store_state g.S.Store c.args.store.now) (store_state g.S.Store c.get_raw.new.self) c.in_ok-body.body.items c.in-Err.unmade
    (λ d kept is. c.in-Err.ensures d kept (rw c.as_slice.ensures.value is)) c.in_ok-body.ensures.moves)

pub returns-clause-crash : goal.returns-clause-crash
returns-clause-crash g c =
    rw c.outcome_of.ensures
    (refused_leaves c.args.name.now (view c.args.id.now) (map plan_of c.args.steps.now) c.args.told (store_state g.S.Store c.args.store.now) (store_state g.S.Store c.get_raw.new.self) _ (outcome_refused c.in-Err.unmade) c.in_ok-body.ensures.crash)

pub returns-clause-shape : goal.returns-clause-shape
returns-clause-shape g c = rw c.outcome_of.ensures (unmade_is c.args.told c.in-Err.unmade)

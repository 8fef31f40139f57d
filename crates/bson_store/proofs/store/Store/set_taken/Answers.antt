use Rattle.std.proofs.Common.{inl, inr, Some, None, refl, ◌∙◌, Ok, arith}
use Rattle.std.proofs.lemmas.Result.{err_from_is_err_and}
use Rattle.bson_store.specs.Calls.{store_state, store_connection, Looks}
use Rattle.bson_store.proofs.CrashLemmas.{accepted_leaves, changed_leaves, id_rewrites}
use Rattle.store_documents.specs.Names.{name_bytes}
use Rattle.bson_model.specs.View.{view}
use Rattle.store_model.specs.State as model
use Rattle.bson_store.proofs.ExitLemmas.{bad_moves, stays_moves, unlooked_moves, none_moves, there_moves, rewritten_moves, unchanged_moves}
use Rattle.store_table.specs.Rows.{with_body_at}
use Rattle.bson_store.proofs.SetLemmas.{set_bad_key, set_refused, set_remakes}
use Rattle.bson_store.proofs.store.Store.set_taken.Goals as goal
use Rattle.bson_raw.proofs.ProgressLemmas.{untrue}
use Rattle.sqlite.specs.State.{HasCleanDisk}

pub returns-in_err-name-clause-moves : goal.returns-in_err-name-clause-moves
returns-in_err-name-clause-moves g c =
    let p = err_from_is_err_and c.from_residual.result c.from_residual.ensures.1 in
    rw (p.1, p.2, c.in_err-name.ensures.0) (bad_moves (store_state g.S.Store c.args.self.now) c.args.name.now (model.set (view c.args.id.now) c.args.key.now (Some (view c.args.value.now))) c.in_err-name.ensures.1)

pub returns-then-not-is_free-clause-moves : goal.returns-then-not-is_free-clause-moves
returns-then-not-is_free-clause-moves g c =
    rw c.from.ensures (stays_moves (store_state g.S.Store c.args.self.now) c.args.name.now (model.set (view c.args.id.now) c.args.key.now (Some (view c.args.value.now))) (model.refused Rattle.store_model.specs.declared.error.ErrorKind.TheVariants.BadKey None) c.in_ok-name.ensures.1 (λ a. set_bad_key (view c.args.id.now) c.args.key.now (Some (view c.args.value.now)) _ (λ free. untrue c.is_free.result c.if-not-is_free.true (c.is_free.ensures.1 free))))

pub returns-in_default-clause-moves : goal.returns-in_default-clause-moves
returns-in_default-clause-moves g c =
    rw c.from-in_default.ensures (none_moves (store_state g.S.Store c.args.self.now) (store_state g.S.Store c.row_of.new.self) c.args.name.now (name_bytes c.in_ok-name.name) (view c.args.id.now) c.in_ok-found.field-0 (model.set (view c.args.id.now) c.args.key.now (Some (view c.args.value.now))) c.in_ok-name.ensures.0 c.in_default.is c.in_ok-name.ensures.1 (λ a none. inl ((c.is_free.ensures.0 c.if-not-is_free.false), inr (none, (refl, refl)))) c.in_ok-found.ensures.moves)

pub returns-in_err-body-clause-moves : goal.returns-in_err-body-clause-moves
returns-in_err-body-clause-moves g c =
    let p = err_from_is_err_and c.from_residual-in_err-body.result c.from_residual-in_err-body.ensures.1 in
    rw (p.1, p.2) (there_moves (store_state g.S.Store c.args.self.now) (store_state g.S.Store c.row_of.new.self) c.args.name.now (name_bytes c.in_ok-name.name) (view c.args.id.now) c.in_ok-found.field-0 c.in-Some.found (model.set (view c.args.id.now) c.args.key.now (Some (view c.args.value.now))) (model.refused c.in_err-body.field-0.0 None) c.in_ok-name.ensures.0 c.in-Some.is c.in_ok-name.ensures.1 (λ bad. bad (c.is_free.ensures.0 c.if-not-is_free.false)) (set_refused (view c.args.id.now) (view c.args.value.now) c.args.key.now c.in-Some.found c.in_err-body.field-0.0 (c.is_free.ensures.0 c.if-not-is_free.false) (λ d kept was. rw c.replace-value.ensures.value at (c.in_err-body.ensures.changed d kept (c.as_slice-old.ensures.value ∙ was)))) c.in_ok-found.ensures.moves)

pub returns-clause-moves : goal.returns-clause-moves
returns-clause-moves g c =
    rw c.fault_refusal.ensures (unchanged_moves (store_state g.S.Store c.args.self.now) (store_state g.S.Store c.row_of.new.self) (store_state g.S.Store c.put_back.new.self) c.args.name.now (name_bytes c.in_ok-name.name) (view c.args.id.now) c.in_ok-found.field-0 c.in-Some.found (model.set (view c.args.id.now) c.args.key.now (Some (view c.args.value.now))) (with_body_at c.in-Some.found.place c.as_slice-body.result.now) c.in-Err.fault c.in_ok-name.ensures.0 c.in-Some.is c.in_ok-name.ensures.1 (λ bad. bad (c.is_free.ensures.0 c.if-not-is_free.false)) c.in_ok-found.ensures.moves c.in-Err.ensures.moves)

pub returns-in-Ok-clause-moves : goal.returns-in-Ok-clause-moves
returns-in-Ok-clause-moves g c =
    (rewritten_moves (store_state g.S.Store c.args.self.now) (store_state g.S.Store c.row_of.new.self) (store_state g.S.Store c.put_back.new.self) c.args.name.now (name_bytes c.in_ok-name.name) (view c.args.id.now) c.in_ok-found.field-0 c.in-Some.found (model.set (view c.args.id.now) c.args.key.now (Some (view c.args.value.now))) model.done c.in_ok-body.body.items c.in_ok-name.ensures.0 c.in-Some.is c.in_ok-name.ensures.1 (λ sound. (sound, c.utf8.key, (rw c.replace-value.ensures.value at c.in_ok-body.ensures.sound))) (set_remakes (view c.args.id.now) (view c.args.value.now) c.args.key.now c.in-Some.found c.in_ok-body.body (c.is_free.ensures.0 c.if-not-is_free.false) (λ d kept was. rw c.replace-value.ensures.value at (c.in_ok-body.ensures.changed d kept (c.as_slice-old.ensures.value ∙ was)))) c.in_ok-found.ensures.moves (rw c.as_slice-body.ensures.value at c.in-Ok.ensures.moves))

pub returns-in_err-found-clause-moves : goal.returns-in_err-found-clause-moves
returns-in_err-found-clause-moves g c =
    let p = err_from_is_err_and c.from_residual-in_err-found.result c.from_residual-in_err-found.ensures.1 in
    rw (p.1, p.2) (unlooked_moves (store_state g.S.Store c.args.self.now) (store_state g.S.Store c.row_of.new.self) c.args.name.now (name_bytes c.in_ok-name.name) (view c.args.id.now) (model.set (view c.args.id.now) c.args.key.now (Some (view c.args.value.now))) c.in_err-found.field-0.0 c.in_ok-name.ensures.0 c.in_ok-name.ensures.1 (λ bad. bad (c.is_free.ensures.0 c.if-not-is_free.false)) c.in_err-found.ensures.moves)

pub returns-clause-crash : goal.returns-clause-crash
returns-clause-crash g c =
    let s = store_state g.S.Store c.args.self.now in
    let m = store_state g.S.Store c.row_of.new.self in
    let t = store_state g.S.Store c.put_back.new.self in
    let n = c.args.name.now in
    let nb = name_bytes c.in_ok-name.name in
    let id = view c.args.id.now in
    let x = c.in-Some.found in
    let call = model.set (view c.args.id.now) c.args.key.now (Some (view c.args.value.now)) in
    rw c.fault_refusal.ensures
    (changed_leaves s m t (model.on n call) (with_body_at x.place c.in_ok-body.body.items) (Looks nb id (Ok c.in_ok-found.field-0)) c.in_ok-found.ensures.moves
    (λ docs after h. h.same) c.in_ok-found.ensures.crash
    (λ docs after h. id_rewrites docs after n nb id c.in_ok-found.field-0 x call model.done c.in_ok-body.body.items c.in_ok-name.ensures.1 (λ e. e) (λ sound. (sound, c.utf8.key, (rw c.replace-value.ensures.value at c.in_ok-body.ensures.sound))) c.in_ok-name.ensures.0 c.in-Some.is h (set_remakes (view c.args.id.now) (view c.args.value.now) c.args.key.now c.in-Some.found c.in_ok-body.body (c.is_free.ensures.0 c.if-not-is_free.false) (λ d kept was. rw c.replace-value.ensures.value at (c.in_ok-body.ensures.changed d kept (c.as_slice-old.ensures.value ∙ was)))))
    c.in-Err.fault (rw c.as_slice-body.ensures.value at c.in-Err.ensures.crash) (rw c.as_slice-body.ensures.value at c.in-Err.ensures.moves))

pub returns-in-Ok-clause-crash : goal.returns-in-Ok-clause-crash
returns-in-Ok-clause-crash g c =
    let s = store_state g.S.Store c.args.self.now in
    let t = store_state g.S.Store c.put_back.new.self in
    accepted_leaves s t (model.on c.args.name.now (model.set (view c.args.id.now) c.args.key.now (Some (view c.args.value.now)))) (model.done) (λ e. e)
    (λ clean docs stands. let y = (c.in_ok-found.ensures.moves (omega (arith, clean, c.put_back.ensures.crash.clean))).1 docs stands in (c.in-Ok.ensures.open clean y.0 y.1).1)
    (λ db up may. g.met.S.Store.settled (store_connection c.put_back.new.self).store db up may) (returns-in-Ok-clause-moves g c)

pub returns-in-Ok-clause-open : goal.returns-in-Ok-clause-open
returns-in-Ok-clause-open g c clean docs stands =
    let early : HasCleanDisk (store_state g.S.Store c.row_of.new.self) = omega (arith, clean, c.put_back.ensures.crash.clean) in
    let y = (c.in_ok-found.ensures.moves early).1 docs stands in
    ((c.in_ok-found.ensures.open early docs stands (rw c.in-Some.is refl)).0, (c.in-Ok.ensures.open clean y.0 y.1).1)

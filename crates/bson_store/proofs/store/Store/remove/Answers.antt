use Rattle.std.proofs.Common.{inr, refl, Ok, arith}
use Rattle.std.proofs.lemmas.Result.{err_from_is_err_and}
use Rattle.bson_store.specs.Calls.{store_state, Looks}
use Rattle.bson_store.proofs.CrashLemmas.{accepted_leaves, changed_leaves, id_removes}
use Rattle.bson_store.specs.Table.{connection_of as table_connection, indexed_state as table_state}
use Rattle.store_documents.specs.Names.{name_bytes}
use Rattle.bson_model.specs.View.{view}
use Rattle.store_model.specs.State as model
use Rattle.bson_store.proofs.ExitLemmas.{bad_moves, unlooked_moves, none_moves, removed_moves, unchanged_moves}
use Rattle.store_table.specs.Rows.{without_place}
use Rattle.bson_store.proofs.store.Store.remove.Goals as goal
use Rattle.sqlite.specs.State.{HasCleanDisk}

pub returns-in_err-name-clause-moves : goal.returns-in_err-name-clause-moves
returns-in_err-name-clause-moves g c =
    let p = err_from_is_err_and c.from_residual.result c.from_residual.ensures.1 in
    rw (p.1, p.2, c.in_err-name.ensures.0) (bad_moves (store_state g.S.Store c.args.self.now) c.args.name.now (model.remove (view c.args.id.now)) c.in_err-name.ensures.1)

pub returns-in_default-clause-moves : goal.returns-in_default-clause-moves
returns-in_default-clause-moves g c =
    rw c.from.ensures (none_moves (store_state g.S.Store c.args.self.now) (store_state g.S.Store c.row_of.new.self) c.args.name.now (name_bytes c.in_ok-name.name) (view c.args.id.now) c.in_ok-found.field-0 (model.remove (view c.args.id.now)) c.in_ok-name.ensures.0 c.in_default.is c.in_ok-name.ensures.1 (λ a none. inr (none, (refl, refl))) c.in_ok-found.ensures.moves)

pub returns-clause-moves : goal.returns-clause-moves
returns-clause-moves g c =
    rw c.fault_refusal.ensures (unchanged_moves (store_state g.S.Store c.args.self.now) (store_state g.S.Store c.row_of.new.self) (table_state g.S.Store c.remove_at.new.self) c.args.name.now (name_bytes c.in_ok-name.name) (view c.args.id.now) c.in_ok-found.field-0 c.in-Some.found (model.remove (view c.args.id.now)) (without_place c.in-Some.found.place) c.in-Err.fault c.in_ok-name.ensures.0 c.in-Some.is c.in_ok-name.ensures.1 (λ x. x) c.in_ok-found.ensures.moves c.in-Err.ensures.moves)

pub returns-in-Ok-clause-moves : goal.returns-in-Ok-clause-moves
returns-in-Ok-clause-moves g c =
    removed_moves (store_state g.S.Store c.args.self.now) (store_state g.S.Store c.row_of.new.self) (table_state g.S.Store c.remove_at.new.self) c.args.name.now (name_bytes c.in_ok-name.name) (view c.args.id.now) c.in_ok-found.field-0 c.in-Some.found c.in_ok-name.ensures.0 c.in-Some.is c.in_ok-name.ensures.1 c.in_ok-found.ensures.moves c.in-Ok.ensures.moves

pub returns-in_err-found-clause-moves : goal.returns-in_err-found-clause-moves
returns-in_err-found-clause-moves g c =
    let p = err_from_is_err_and c.from_residual-in_err-found.result c.from_residual-in_err-found.ensures.1 in
    rw (p.1, p.2) (unlooked_moves (store_state g.S.Store c.args.self.now) (store_state g.S.Store c.row_of.new.self) c.args.name.now (name_bytes c.in_ok-name.name) (view c.args.id.now) (model.remove (view c.args.id.now)) c.in_err-found.field-0.0 c.in_ok-name.ensures.0 c.in_ok-name.ensures.1 (λ x. x) c.in_err-found.ensures.moves)

pub returns-clause-crash : goal.returns-clause-crash
returns-clause-crash g c =
    let s = store_state g.S.Store c.args.self.now in
    let m = store_state g.S.Store c.row_of.new.self in
    let t = table_state g.S.Store c.remove_at.new.self in
    let n = c.args.name.now in
    let nb = name_bytes c.in_ok-name.name in
    let id = view c.args.id.now in
    let x = c.in-Some.found in
    rw c.fault_refusal.ensures
    (changed_leaves s m t (model.on n (model.remove id)) (without_place x.place) (Looks nb id (Ok c.in_ok-found.field-0)) c.in_ok-found.ensures.moves (λ docs after h. h.same) c.in_ok-found.ensures.crash
    (λ docs after h. id_removes docs after n nb id c.in_ok-found.field-0 x c.in_ok-name.ensures.1 c.in_ok-name.ensures.0 c.in-Some.is h) c.in-Err.fault c.in-Err.ensures.crash c.in-Err.ensures.moves)

pub returns-in-Ok-clause-crash : goal.returns-in-Ok-clause-crash
returns-in-Ok-clause-crash g c =
    let s = store_state g.S.Store c.args.self.now in
    let t = table_state g.S.Store c.remove_at.new.self in
    accepted_leaves s t (model.on c.args.name.now (model.remove (view c.args.id.now))) model.done (λ e. e)
    (λ clean docs stands. let y = (c.in_ok-found.ensures.moves (omega (arith, clean, c.remove_at.ensures.crash.clean))).1 docs stands in (c.in-Ok.ensures.open clean y.0 y.1).1)
    (λ db up may. g.met.S.Store.settled (table_connection c.remove_at.new.self).store db up may) (returns-in-Ok-clause-moves g c)

pub returns-in-Ok-clause-open : goal.returns-in-Ok-clause-open
returns-in-Ok-clause-open g c clean docs stands =
    let early : HasCleanDisk (store_state g.S.Store c.row_of.new.self) = omega (arith, clean, c.remove_at.ensures.crash.clean) in
    let y = (c.in_ok-found.ensures.moves early).1 docs stands in
    ((c.in_ok-found.ensures.open early docs stands (rw c.in-Some.is refl)).0, (c.in-Ok.ensures.open clean y.0 y.1).1)

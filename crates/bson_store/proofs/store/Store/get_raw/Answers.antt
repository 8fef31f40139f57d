use Rattle.std.proofs.Common.{inr, refl}
use Rattle.std.proofs.lemmas.Result.{err_from_is_err_and}
use Rattle.bson_store.specs.Calls.{store_state}
use Rattle.store_documents.specs.Names.{name_bytes}
use Rattle.bson_model.specs.View.{view}
use Rattle.store_model.specs.State as model
use Rattle.bson_store.proofs.ExitLemmas.{bad_moves, unlooked_moves, none_moves, there_moves}
use Rattle.bson_store.proofs.FindLemmas.{got}
use Rattle.bson_store.proofs.store.Store.get_raw.Goals as goal

pub returns-in_err-name-clause-moves : goal.returns-in_err-name-clause-moves
returns-in_err-name-clause-moves g c =
    let p = err_from_is_err_and c.from_residual.result c.from_residual.ensures.1 in
    rw (p.1, p.2, c.in_err-name.ensures.0) (bad_moves (store_state g.S.Store c.args.self.now) c.args.name.now (model.get_raw (view c.args.id.now)) c.in_err-name.ensures.1)

pub returns-in_default-clause-moves : goal.returns-in_default-clause-moves
returns-in_default-clause-moves g c =
    rw c.from.ensures (none_moves (store_state g.S.Store c.args.self.now) (store_state g.S.Store c.row_of.new.self) c.args.name.now (name_bytes c.in_ok-name.name) (view c.args.id.now) c.in_ok-found.field-0 (model.get_raw (view c.args.id.now)) c.in_ok-name.ensures.0 c.in_default.is c.in_ok-name.ensures.1 (λ a none. inr (none, (refl, refl))) c.in_ok-found.ensures.moves)

pub returns-clause-moves : goal.returns-clause-moves
returns-clause-moves g c =
    there_moves (store_state g.S.Store c.args.self.now) (store_state g.S.Store c.row_of.new.self) c.args.name.now (name_bytes c.in_ok-name.name) (view c.args.id.now) c.in_ok-found.field-0 c.in-Some.found (model.get_raw (view c.args.id.now)) (model.bytes c.in-Some.found.body.items) c.in_ok-name.ensures.0 c.in-Some.is c.in_ok-name.ensures.1 (λ x. x) (got (view c.args.id.now) c.in-Some.found) c.in_ok-found.ensures.moves

pub returns-in_err-found-clause-moves : goal.returns-in_err-found-clause-moves
returns-in_err-found-clause-moves g c =
    let p = err_from_is_err_and c.from_residual-in_err-found.result c.from_residual-in_err-found.ensures.1 in
    rw (p.1, p.2) (unlooked_moves (store_state g.S.Store c.args.self.now) (store_state g.S.Store c.row_of.new.self) c.args.name.now (name_bytes c.in_ok-name.name) (view c.args.id.now) (model.get_raw (view c.args.id.now)) c.in_err-found.field-0.0 c.in_ok-name.ensures.0 c.in_ok-name.ensures.1 (λ x. x) c.in_err-found.ensures.moves)

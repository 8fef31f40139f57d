use Rattle.std.proofs.Common.{None}
use Rattle.std.proofs.lemmas.Result.{err_from_is_err_and}
use Rattle.bson_store.specs.Calls.{store_state}
use Rattle.bson_model.specs.View.{view}
use Rattle.store_model.specs.State as model
use Rattle.bson_store.proofs.ExitLemmas.{bad_moves, stays_moves}
use Rattle.serde_json.specs.View.{view as data_of}
use Rattle.store_model.specs.Reading.{read_value}
use Rattle.bson_store.proofs.SetLemmas.{set_bad_key, set_unread}
use Rattle.bson_store.proofs.store.Store.set.Goals as goal
use Rattle.bson_raw.proofs.ProgressLemmas.{untrue}

pub returns-in_err-good_name-clause-moves : goal.returns-in_err-good_name-clause-moves
returns-in_err-good_name-clause-moves g c =
    let p = err_from_is_err_and c.from_residual.result c.from_residual.ensures.1 in
    rw (p.1, p.2, c.in_err-good_name.ensures.0) (bad_moves (store_state g.S.Store c.args.self.now) c.args.name.now (model.set (view c.args.id.now) c.args.key.now (read_value (data_of c.args.value))) c.in_err-good_name.ensures.1)

pub returns-then-not-is_free-clause-moves : goal.returns-then-not-is_free-clause-moves
returns-then-not-is_free-clause-moves g c =
    rw c.from.ensures (stays_moves (store_state g.S.Store c.args.self.now) c.args.name.now (model.set (view c.args.id.now) c.args.key.now (read_value (data_of c.args.value))) (model.refused Rattle.store_model.specs.declared.error.ErrorKind.TheVariants.BadKey None) c.in_ok-good_name.ensures.1 (λ a. set_bad_key (view c.args.id.now) c.args.key.now (read_value (data_of c.args.value)) _ (λ free. untrue c.is_free.result c.if-not-is_free.true (c.is_free.ensures.1 free))))

pub returns-in_err-value-clause-moves : goal.returns-in_err-value-clause-moves
returns-in_err-value-clause-moves g c =
    let p = err_from_is_err_and c.from_residual-in_err-value.result c.from_residual-in_err-value.ensures.1 in
    rw (p.1, p.2) (set_unread (store_state g.S.Store c.args.self.now) c.args.name.now (view c.args.id.now) c.args.key.now (data_of c.args.value) c.in_err-value.field-0.0 c.in_ok-good_name.ensures.1 (c.is_free.ensures.0 c.if-not-is_free.false) c.in_err-value.ensures)

pub returns-clause-moves : goal.returns-clause-moves
returns-clause-moves g c = rw c.in_ok-value.ensures c.set_value.ensures.moves

pub returns-clause-crash : goal.returns-clause-crash
returns-clause-crash g c = rw c.in_ok-value.ensures c.set_value.ensures.crash

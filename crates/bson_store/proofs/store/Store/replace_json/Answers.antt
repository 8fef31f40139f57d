use Rattle.std.proofs.Common.{Err, ap}
use Rattle.std.proofs.lemmas.Result.{err_from_is_err_and}
use Rattle.bson_store.specs.Calls.{store_state}
use Rattle.store_documents.specs.Names.{name_bytes}
use Rattle.store_model.specs.State as model
use Rattle.bson_store.proofs.ExitLemmas.{bad_tree, read_tree, unkept_tree, unwritten_replace}
use Rattle.serde_json.specs.View.{view as data_of}
use Rattle.bson_store.specs.Refusals.{reply_by, as_done}
use Rattle.bson_store.proofs.ReadLemmas.{replaces}
use Rattle.bson_store.proofs.CrashLemmas.{tree_leaves}
use Rattle.bson_store.proofs.store.Store.replace_json.Goals as goal

pub returns-in_err-name-clause-moves : goal.returns-in_err-name-clause-moves
returns-in_err-name-clause-moves g c =
    let p = err_from_is_err_and c.from_residual.result c.from_residual.ensures.1 in
    rw (p.1, p.2, c.in_err-name.ensures.0) (bad_tree (store_state g.S.Store c.args.self.now) c.args.name.now (data_of c.args.json) model.replace c.in_err-name.ensures.1)

pub returns-in_err-row-clause-moves : goal.returns-in_err-row-clause-moves
returns-in_err-row-clause-moves g c =
    let p = err_from_is_err_and c.from_residual-in_err-row.result c.from_residual-in_err-row.ensures.1 in
    rw (p.1, p.2) (unkept_tree (store_state g.S.Store c.args.self.now) c.args.name.now (data_of c.args.json) model.replace c.in_err-row.field-0.0 replaces (λ d k h. unwritten_replace (store_state g.S.Store c.args.self.now) c.args.name.now d k c.in_ok-name.ensures.1 h) c.in_ok-name.ensures.1 c.in_err-row.ensures.row (λ memory. c.in_err-row.ensures.object (ap Err memory)))

pub returns-clause-moves : goal.returns-clause-moves
returns-clause-moves g c =
    let kept = c.in_ok-row.ensures.row in
    read_tree (store_state g.S.Store c.args.self.now) (store_state g.S.Store c.replace_row.new.self) c.args.name.now (name_bytes c.in_ok-name.name) (data_of c.args.json) model.replace kept.0 (reply_by as_done c.replace_row.result) c.in_ok-name.ensures.0 kept.1 (c.replace_row.ensures.moves kept.0 kept.2 kept.3)

pub returns-clause-crash : goal.returns-clause-crash
returns-clause-crash g c =
    let kept = c.in_ok-row.ensures.row in
    tree_leaves (store_state g.S.Store c.args.self.now) (store_state g.S.Store c.replace_row.new.self) c.args.name.now (name_bytes c.in_ok-name.name) (data_of c.args.json) model.replace kept.0 (reply_by as_done c.replace_row.result) c.in_ok-name.ensures.0 kept.1
    (c.replace_row.ensures.crash kept.0 kept.2 kept.3)

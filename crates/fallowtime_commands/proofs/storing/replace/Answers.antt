use Rattle.std.proofs.lemmas.Result.{err_from_is_err_and}
use Rattle.bson_model.specs.View.{content}
use Rattle.store_model.specs.State.{in_bytes}
use Rattle.store_model.specs.State as model
use Rattle.bson_store.specs.Calls.{store_state}
use Rattle.bson_store.specs.Refusals.{as_done, reply_by}
use Rattle.fallowtime_commands.proofs.PutLemmas.{stopped, stored}
use Rattle.fallowtime_commands.proofs.storing.replace.Goals as goal

pub returns-in_err-bytes-clause-moves : goal.returns-in_err-bytes-clause-moves
returns-in_err-bytes-clause-moves g c =
    let p = err_from_is_err_and c.from_residual.result c.from_residual.ensures.1 in
    rw (p.1, p.2) (stopped c.args.name.now (content c.args.document.now) (store_state g.S.Store c.args.store.now) (model.replace in_bytes) c.in_err-bytes.field-0.0 c.in_err-bytes.ensures)

pub returns-clause-moves : goal.returns-clause-moves
returns-clause-moves g c =
    stored c.args.name.now (content c.args.document.now) (store_state g.S.Store c.args.store.now) (store_state g.S.Store c.replace_raw.new.self) (model.replace in_bytes) (reply_by as_done c.replace_raw.result)
    c.in_ok-bytes.ensures.1 (rw (c.as_slice.ensures.value, c.in_ok-bytes.ensures.0) at c.replace_raw.ensures.moves)

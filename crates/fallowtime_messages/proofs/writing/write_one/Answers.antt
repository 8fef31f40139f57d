use Rattle.std.proofs.Common.{sym, subst, Ok}
use Rattle.std.proofs.lemmas.Result.{err_from_is_err_and}
use Rattle.bson_store.specs.Calls.{store_state}
use Rattle.fallowtime_messages.specs.Runs.{Keeps}
use Rattle.fallowtime_messages.proofs.RunLemmas.{wrote}
use Rattle.fallowtime_messages.proofs.writing.write_one.Goals as goal

pub returns-in_err-keep : goal.returns-in_err-keep
returns-in_err-keep g c =
    let p = err_from_is_err_and c.from_residual.result c.from_residual.ensures.1 in
    let did = c.perform_statement-outcome in
    wrote c.args.stops c.args.statement did.result c.args.written.now c.keep.new.written c.from_residual.result (store_state g.S.Store c.args.store.now) (store_state g.S.Store did.new.store) did.ensures.did did.ensures.shape
    (subst (λ r. Keeps c.args.stops c.args.written.now c.keep.new.written r did.result) (sym p.1) tt)

pub returns : goal.returns
returns g c =
    let did = c.perform_statement-outcome in
    wrote c.args.stops c.args.statement did.result c.args.written.now c.keep.new.written (Ok c.is_last.result) (store_state g.S.Store c.args.store.now) (store_state g.S.Store did.new.store) did.ensures.did did.ensures.shape
    (c.in_ok-keep.ensures, c.is_last.ensures)

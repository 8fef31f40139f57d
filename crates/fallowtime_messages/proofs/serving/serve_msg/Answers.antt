use Rattle.std.proofs.Common.{refl, sym, subst}
use Rattle.std.proofs.lemmas.Result.{err_from_is_err_and}
use Rattle.bson_store.specs.Calls.{store_state}
use Rattle.fallowtime_messages.specs.Waiting.{waiting}
use Rattle.fallowtime_messages.specs.Done.{DoesAll}
use Rattle.fallowtime_messages.specs.Serving.{ServesMsg}
use Rattle.fallowtime_messages.proofs.ServeLemmas.{no_memory, sent}
use Rattle.fallowtime_messages.proofs.serving.serve_msg.Goals as goal

pub returns-in_err-spare : goal.returns-in_err-spare
returns-in_err-spare g c =
    let p = err_from_is_err_and c.from_residual.result c.from_residual.ensures.1 in
    let ws = waiting c.args.cursors.now in
    let s = store_state g.S.Store c.args.store.now in
    subst (λ r. DoesAll (ServesMsg c.args.database.now c.args.number c.args.request c.args.message ws ws r) s s) (sym p.1) (no_memory c.args.database.now c.args.message ws ws c.args.number c.args.request p.0 s refl)

pub returns : goal.returns
returns g c =
    sent c.args.database.now c.args.message (waiting c.args.cursors.now) (waiting c.answer_msg-answer.new.cursors) c.args.number c.args.request c.answer_msg-answer.result c.finished.result (store_state g.S.Store c.args.store.now) (store_state g.S.Store c.answer_msg-answer.new.store) c.finished.ensures c.answer_msg-answer.ensures

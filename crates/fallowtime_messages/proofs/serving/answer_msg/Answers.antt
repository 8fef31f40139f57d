use Rattle.std.proofs.Common.{rules, sym, subst}
use Rattle.bson_bytes.specs.Spells.{Means}
use Rattle.bson_raw.specs.View.{bytes_of}
use Rattle.std.proofs.lemmas.Result.{err_from_is_err_and}
use Rattle.bson_model.specs.View.{content}
use Rattle.bson_store.specs.Calls.{store_state}
use Rattle.fallowtime_messages.specs.Waiting.{waiting}
use Rattle.fallowtime_messages.specs.Done.{DoesAll}
use Rattle.fallowtime_messages.specs.Outcomes.{told_by}
use Rattle.fallowtime_messages.specs.Serving.{ComesOfMsg}
use Rattle.fallowtime_messages.proofs.ServeLemmas.{answered, spoilt, unread}
use Rattle.fallowtime_messages.proofs.serving.answer_msg.Goals as goal

pub returns-in_err-lists : goal.returns-in_err-lists
returns-in_err-lists g c =
    let p = err_from_is_err_and c.from_residual.result c.from_residual.ensures.1 in
    let s = store_state g.S.Store c.args.store.now in
    subst (λ r. DoesAll (ComesOfMsg c.args.database.now c.args.message (waiting c.args.cursors.now) (waiting c.args.cursors.now) (told_by r)) s s) (sym p.1) (unread c.args.database.now c.args.message (waiting c.args.cursors.now) p.0 s)

pub returns-in_err-command : goal.returns-in_err-command
returns-in_err-command g c =
    let p = err_from_is_err_and c.from_residual-in_err-command.result c.from_residual-in_err-command.ensures.1 in
    let s = store_state g.S.Store c.args.store.now in
    subst (λ r. DoesAll (ComesOfMsg c.args.database.now c.args.message (waiting c.args.cursors.now) (waiting c.args.cursors.now) (told_by r)) s s) (sym p.1) (unread c.args.database.now c.args.message (waiting c.args.cursors.now) p.0 s)

pub returns-in-Some : goal.returns-in-Some
returns-in-Some g c =
    let means : Means (bytes_of c.args.message.body) (content c.in-Some.command) = search rules in
    answered c.args.database.now c.args.message (waiting c.args.cursors.now) (waiting c.answer_command.new.cursors) (content c.in-Some.command) c.in_ok-lists.lists.items c.answer_command.result (store_state g.S.Store c.args.store.now) (store_state g.S.Store c.answer_command.new.store)
    means c.in_ok-lists.ensures (rw c.as_slice.ensures.value at c.answer_command.ensures)

pub returns : goal.returns
returns g c = spoilt c.args.database.now c.args.message (waiting c.args.cursors.now) c.damaged.result (store_state g.S.Store c.args.store.now) c.damaged.ensures

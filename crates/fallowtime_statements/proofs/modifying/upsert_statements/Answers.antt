use Rattle.bson_model.specs.View.{content, view}
use Rattle.fallowtime_statements.proofs.ModifyLemmas.{all_shown, none_made}
use Rattle.fallowtime_statements.proofs.modifying.upsert_statements.Goals as goal

pub returns-in-Some : goal.returns-in-Some
returns-in-Some c =
    let list = c.in_ok-list.list in
    all_shown (content c.args.command.now) c.args.name.now c.with_shown.result list.items (view c.in-Some.id) c.in_ok-after.after c.in_ok-after.ensures c.in_ok-list.ensures c.if-not-after.false
    (rw c.as_slice.ensures.value at (rw c.in-Some.is at c.in_ok-id.ensures)) c.with_shown.ensures

pub returns-in-None : goal.returns-in-None
returns-in-None c =
    let list = c.in_ok-list.list in
    none_made (content c.args.command.now) c.args.name.now list.items c.in_ok-after.after c.in_ok-after.ensures c.in_ok-list.ensures (rw c.as_slice.ensures.value at (rw c.in-None.is at c.in_ok-id.ensures))

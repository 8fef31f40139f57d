use Rattle.bson_model.specs.View.{content}
use Rattle.fallowtime_statements.proofs.ChangeLemmas.{is_change}
use Rattle.fallowtime_statements.proofs.changes.change_in.Goals as goal

pub returns : goal.returns
returns c =
    is_change c.change_by.result c.args.name.now (content c.args.item.now) (content c.in_ok-query.query) (content c.in_ok-work.work) c.in_ok-many.many c.in_ok-upsert.upsert
    c.in_ok-query.ensures c.in_ok-work.ensures c.in_ok-many.ensures c.in_ok-upsert.ensures c.change_by.ensures

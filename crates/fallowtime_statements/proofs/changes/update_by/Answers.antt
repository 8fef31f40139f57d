use Rattle.std.proofs.Common.{map}
use Rattle.bson_model.specs.View.{content, items_of, view}
use Rattle.fallowtime_statements.specs.Changes.{is_update}
use Rattle.fallowtime_statements.proofs.ChangeLemmas.{update_line}
use Rattle.fallowtime_statements.proofs.changes.update_by.Goals as goal

pub returns : goal.returns
returns c =
    update_line c.statement_by.result c.args.name.now (content c.args.query) (content c.args.work) (content c.in_ok-options.options) (items_of (map view c.in_ok-values.values.items)) c.in_ok-values.ensures
    (is_update (content c.args.work)) c.args.many c.args.upsert c.requires c.in_ok-options.ensures c.statement_by.ensures

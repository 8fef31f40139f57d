use Rattle.std.proofs.Common.{map}
use Rattle.bson_model.specs.View.{content, items_of, view}
use Rattle.fallowtime_statements.proofs.ChangeLemmas.{is_removal}
use Rattle.fallowtime_statements.proofs.changes.removal_in.Goals as goal

pub returns : goal.returns
returns c =
    is_removal c.statement_by.result c.args.name.now (content c.args.item.now) (content c.in_ok-query.query) (content c.in_ok-options.options) c.in_ok-several.several (items_of (map view c.in_ok-values.values.items))
    c.in_ok-query.ensures c.in_ok-several.ensures c.in_ok-options.ensures c.in_ok-values.ensures c.statement_by.ensures

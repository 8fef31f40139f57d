use Rattle.std.proofs.Common.{map}
use Rattle.bson_model.specs.View.{content, items_of, view}
use Rattle.fallowtime_statements.proofs.ModifyLemmas.{is_shown}
use Rattle.fallowtime_statements.proofs.modifying.shown_statement.Goals as goal

pub returns : goal.returns
returns c =
    is_shown c.statement_by.result (content c.args.command.now) c.args.name.now (view c.args.id) (content c.in_ok-query.query) (content c.in_ok-fields.fields) (content c.in_ok-options.options) (items_of (map view c.in_ok-values.values.items))
    c.in_ok-query.ensures.0 c.in_ok-query.ensures.1 c.in_ok-fields.ensures c.in_ok-options.ensures c.in_ok-values.ensures c.statement_by.ensures

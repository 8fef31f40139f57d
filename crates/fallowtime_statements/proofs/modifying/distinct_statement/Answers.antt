use Rattle.std.proofs.Common.{map}
use Rattle.bson_model.specs.View.{content, items_of, view}
use Rattle.fallowtime_statements.proofs.ModifyLemmas.{is_distinct}
use Rattle.fallowtime_statements.proofs.modifying.distinct_statement.Goals as goal

pub returns : goal.returns
returns c =
    is_distinct c.statement_by.result (content c.args.command.now) c.args.name.now c.in_ok-path.path.now (content c.in_ok-query.query) (items_of (map view c.in_ok-values.values.items)) c.in_ok-path.ensures c.in_ok-query.ensures c.in_ok-values.ensures c.statement_by.ensures

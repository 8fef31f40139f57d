use Rattle.std.proofs.Common.{map}
use Rattle.bson_model.specs.View.{content, items_of, view}
use Rattle.fallowtime_statements.proofs.ModifyLemmas.{removes}
use Rattle.fallowtime_statements.proofs.modifying.removed.Goals as goal

pub returns : goal.returns
returns c =
    removes c.statement_by.result (content c.args.command.now) c.args.name.now (content c.in_ok-query.query) (content c.in_ok-options.options) (items_of (map view c.in_ok-values.values.items))
    c.in_ok-alone.ensures c.in_ok-query.ensures c.in_ok-options.ensures c.in_ok-values.ensures c.statement_by.ensures

use Rattle.std.proofs.Common.{codes, map}
use Rattle.bson_base.specs.Value.{look_up}
use Rattle.bson_model.specs.View.{content, items_of, view}
use Rattle.fallowtime_statements.proofs.StageLemmas.{is_aggregate}
use Rattle.fallowtime_statements.proofs.staging.pipeline_statement.Goals as goal

pub returns : goal.returns
returns c =
    is_aggregate c.statement_by.result (look_up (codes "pipeline") (content c.args.command.now)) c.args.name.now (map view c.in_ok-stages.stages.items) (items_of (map view c.in_ok-values.values.items))
    c.in_ok-stages.ensures c.in_ok-values.ensures c.statement_by.ensures

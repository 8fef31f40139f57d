use Rattle.std.proofs.Common.{ap, ◌∙◌}
use Rattle.bson_model.specs.View.{content}
use Rattle.fallowtime_statements.specs.Modifying.{finder}
use Rattle.fallowtime_statements.proofs.ModifyLemmas.{modifies}
use Rattle.fallowtime_statements.proofs.modifying.changed.Goals as goal

pub returns : goal.returns
returns c =
    modifies c.statement_mixed.result (content c.args.command.now) c.args.name.now (content c.in_ok-query.query) (content c.in_ok-work.work) (content c.in_ok-options.options) c.finder-line.result
    c.in_ok-query.ensures c.in_ok-work.ensures c.in_ok-options.ensures (c.finder-line.ensures ∙ ap finder c.is_update.ensures) c.statement_mixed.ensures

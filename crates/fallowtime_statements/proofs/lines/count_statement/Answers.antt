use Rattle.std.proofs.Common.{codes, refl}
use Rattle.bson_base.specs.Value.{look_up}
use Rattle.bson_model.specs.View.{content}
use Rattle.fallowtime_statements.specs.Lines.{line_of_two}
use Rattle.fallowtime_statements.proofs.LineLemmas.{is_count}
use Rattle.fallowtime_statements.proofs.lines.count_statement.Goals as goal

pub returns : goal.returns
returns c =
    is_count c.count_by.result (look_up (codes "query") (content c.args.command.now)) c.args.name.now (content c.in_ok-query.query) (line_of_two c.args.name.now (content c.in_ok-query.query)) c.in_ok-query.ensures refl c.count_by.ensures

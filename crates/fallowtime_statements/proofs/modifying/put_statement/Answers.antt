use Rattle.bson_model.specs.View.{content}
use Rattle.fallowtime_statements.proofs.ModifyLemmas.{is_put}
use Rattle.fallowtime_statements.proofs.modifying.put_statement.Goals as goal

pub returns : goal.returns
returns c =
    is_put c.change_by.result (content c.args.command.now) c.args.name.now (content c.in_ok-query.query) (content c.in_ok-work.work) c.in_ok-query.ensures c.in_ok-work.ensures c.change_by.ensures

use Rattle.bson_model.specs.View.{content}
use Rattle.fallowtime_statements.proofs.ChangeLemmas.{of_change}
use Rattle.fallowtime_statements.proofs.changes.change_of.Goals as goal

pub returns : goal.returns
returns c =
    of_change c.change_in.result c.args.name.now (content c.in_ok-item.item) c.args.bytes.now c.in_ok-item.ensures c.in_ok-allowed.ensures c.change_in.ensures

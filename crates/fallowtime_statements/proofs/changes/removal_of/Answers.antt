use Rattle.bson_model.specs.View.{content}
use Rattle.fallowtime_statements.proofs.ChangeLemmas.{of_removal}
use Rattle.fallowtime_statements.proofs.changes.removal_of.Goals as goal

pub returns : goal.returns
returns c =
    of_removal c.removal_in.result c.args.name.now (content c.in_ok-item.item) c.args.bytes.now c.in_ok-item.ensures c.in_ok-allowed.ensures c.removal_in.ensures

use Rattle.bson_model.specs.View.{content}
use Rattle.fallowtime_commands.specs.Changing.{Replaces}
use Rattle.fallowtime_commands.proofs.ChangeLemmas.{renewed}
use Rattle.fallowtime_commands.proofs.changing.replacement_of_body.Goals as goal

pub returns : goal.returns
returns c d kept is =
    renewed (Replaces (content c.args.by.now) d) c.args.at c.args.name.now d (content c.in_ok-document.document) c.exchange.result (c.in_ok-document.ensures d kept is) (c.exchange.ensures d is)

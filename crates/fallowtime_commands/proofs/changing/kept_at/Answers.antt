use Rattle.bson_model.specs.View.{content}
use Rattle.fallowtime_commands.proofs.ChangeLemmas.{unkept_at}
use Rattle.fallowtime_commands.proofs.changing.kept_at.Goals as goal

pub returns-in-Err : goal.returns-in-Err
returns-in-Err c = unkept_at (content c.args.document.now) c.in-Err.kind c.at.result c.args.at c.in-Err.ensures c.at.ensures

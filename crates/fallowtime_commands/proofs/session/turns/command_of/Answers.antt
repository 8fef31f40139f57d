use Rattle.std.proofs.Common.{◌∙◌, ap}
use Rattle.json.specs.Value.{value_view}
use Rattle.fallowtime_commands.proofs.TreeLemmas.{command_chosen}
use Rattle.fallowtime_commands.proofs.session.turns.command_of.Goals as goal

pub returns : goal.returns
returns c = ap (λ t. value_view t.now) c.unwrap_or.ensures ∙ command_chosen c.do_in.result c.args.tree ∙ c.do_in.ensures

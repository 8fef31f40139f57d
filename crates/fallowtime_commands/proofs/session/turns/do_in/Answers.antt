use Rattle.std.proofs.Common.{option_map}
use Rattle.json.specs.Value.{value_view}
use Rattle.fallowtime_commands.proofs.TreeLemmas.{command_found}
use Rattle.fallowtime_commands.proofs.session.turns.do_in.Goals as goal

pub returns-in-Object : goal.returns-in-Object
returns-in-Object c =
    command_found c.args.tree.now c.in-Object.members c.as_slice.result.now c.in-Object.is c.as_slice.ensures.value (option_map (λ v. value_view v.now) c.do_among.result) c.do_among.ensures

use Rattle.std.proofs.Common.{◌∙◌}
use Rattle.fallowtime_commands.proofs.TreeLemmas.{id_found}
use Rattle.fallowtime_commands.proofs.session.turns.id_in.Goals as goal

pub returns-in-Object-clause-id : goal.returns-in-Object-clause-id
returns-in-Object-clause-id c = c.id_among.ensures.id ∙ id_found c.args.tree.now c.in-Object.members c.as_slice.result.now c.in-Object.is c.as_slice.ensures.value

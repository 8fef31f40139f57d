use Rattle.fallowtime_commands.proofs.FindingLemmas.{first_body}
use Rattle.fallowtime_commands.proofs.finding.head_of.Goals as goal

pub returns-in-len1-up : goal.returns-in-len1-up
returns-in-len1-up c = first_body c.args.bodies.now c.body-item.result c.as_slice.result.now c.in-len1-up.len_at_least c.body-item.is c.as_slice.ensures.value

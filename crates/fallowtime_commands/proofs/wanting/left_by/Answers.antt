use Rattle.fallowtime_commands.proofs.WantLemmas.{all_whole}
use Rattle.fallowtime_commands.proofs.wanting.left_by.Goals as goal

pub returns-in-None : goal.returns-in-None
returns-in-None c = λ ds are. all_whole c.args.fields.now c.args.bodies.items ds c.in-None.is are

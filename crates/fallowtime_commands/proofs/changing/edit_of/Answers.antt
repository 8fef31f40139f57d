use Rattle.std.proofs.Common.{refl}
use Rattle.fallowtime_commands.proofs.changing.edit_of.Goals as goal

pub returns-in-Ok-clause-becomes : goal.returns-in-Ok-clause-becomes
returns-in-Ok-clause-becomes c d kept is = rw c.in-Remove.is (c.in-Ok.edit, c.in-Ok.ensures d kept is, refl)

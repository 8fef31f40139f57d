use Rattle.std.proofs.Common.{length}
use Rattle.store_update.proofs.update.+found.Given as goal

abbrev pub decreases-found : goal.decreases-found
decreases-found l = length l.path.now

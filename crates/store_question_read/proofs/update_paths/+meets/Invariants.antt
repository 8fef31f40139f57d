use Rattle.std.proofs.Common.{length}
use Rattle.store_question_read.proofs.update_paths.+meets.Given as goal

abbrev pub decreases-meets : goal.decreases-meets
decreases-meets l = length l.path.now

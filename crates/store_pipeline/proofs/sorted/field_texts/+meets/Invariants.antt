use Rattle.std.proofs.Common.{length}
use Rattle.store_pipeline.proofs.sorted.field_texts.+meets.Given as goal

abbrev pub decreases-meets : goal.decreases-meets
decreases-meets l = length l.path.now

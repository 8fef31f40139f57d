use Rattle.std.proofs.Common.{length}
use Rattle.fallowtime_words.proofs.arguments.+word_count.Given as goal

abbrev pub decreases-word_count : goal.decreases-word_count
decreases-word_count l = length l.arguments.now

use Rattle.std.proofs.Common.{length}
use Rattle.fallowtime_words.proofs.words.+word_before.Given as goal

abbrev pub decreases-word_before : goal.decreases-word_before
decreases-word_before l = length l.words.now

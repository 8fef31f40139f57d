use Rattle.std.proofs.Common.{drop}
use Rattle.store_question_read.proofs.PatternLemmas.{Kept}
use Rattle.store_question_read.proofs.patterns.literal.Given as goal

abbrev pub invariant-loop-byte : goal.invariant-loop-byte
invariant-loop-byte l = Kept l.pattern l.bytes.items l.escaped (drop l.byte-index l.pattern)

use Rattle.std.proofs.Common.{◌≡◌, drop}
use Rattle.store_question_read.specs.Patterns.{are_options}
use Rattle.store_question_read.proofs.patterns.are_letters.Given as goal

abbrev pub invariant-loop-letter : goal.invariant-loop-letter
invariant-loop-letter l = are_options l.letters ≡ are_options (drop l.letter-index l.letters)

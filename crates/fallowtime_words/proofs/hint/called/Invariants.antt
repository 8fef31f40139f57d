use Rattle.std.proofs.Common.{◌≡◌, drop}
use Rattle.fallowtime_words.specs.Hints.{called_in}
use Rattle.fallowtime_words.proofs.hint.called.Given as goal

abbrev pub invariant-loop-other : goal.invariant-loop-other
invariant-loop-other l = called_in (drop l.other-index l.names) l.word ≡ called_in l.names l.word

use Rattle.std.proofs.Common.{◌≡◌, drop}
use Rattle.std.specs.List.{list_all}
use Rattle.fallowtime_words.specs.Asked.{is_numeric}
use Rattle.fallowtime_words.proofs.asked.are_numeric.Given as goal

abbrev pub invariant-loop-byte : goal.invariant-loop-byte
invariant-loop-byte l = list_all is_numeric (drop l.byte-index l.bytes) ≡ list_all is_numeric l.bytes

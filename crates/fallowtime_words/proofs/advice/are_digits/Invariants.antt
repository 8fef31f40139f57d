use Rattle.std.proofs.Common.{◌≡◌, drop}
use Rattle.std.specs.List.{list_all}
use Rattle.fallowtime_words.specs.Advice.{is_hex}
use Rattle.fallowtime_words.proofs.advice.are_digits.Given as goal

abbrev pub invariant-loop-byte : goal.invariant-loop-byte
invariant-loop-byte l = list_all is_hex (drop l.byte-index l.bytes) ≡ list_all is_hex l.bytes

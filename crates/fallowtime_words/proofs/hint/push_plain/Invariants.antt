use Rattle.std.proofs.Common.{◌≡◌, ◌++◌, drop, string_bytes}
use Rattle.std.specs.List.{filter}
use Rattle.fallowtime_words.specs.Hints.{is_shown}
use Rattle.fallowtime_words.proofs.hint.push_plain.Given as goal

abbrev pub invariant-loop-byte : goal.invariant-loop-byte
invariant-loop-byte l = string_bytes l.text ++ filter is_shown (drop l.byte-index l.bytes) ≡ string_bytes l.initial.text ++ filter is_shown l.bytes

use Rattle.std.proofs.Common.{◌≡◌, drop, map, string_bytes}
use Rattle.std.specs.List.{list_any}
use Rattle.fallowtime_words.specs.Hints.{is_joined}
use Rattle.fallowtime_words.proofs.hint.has_joined.Given as goal

abbrev pub invariant-loop-word : goal.invariant-loop-word
invariant-loop-word l = list_any is_joined (map string_bytes (drop l.word-index l.words)) ≡ list_any is_joined (map string_bytes l.words)

use Rattle.std.proofs.Common.{◌≡◌, ◌++◌, chars, codes, IsUtf8, string_bytes}
use Rattle.std.specs.Str.Iter.{chars_rest}
use Rattle.cli_convert.specs.Shown.{quoted_rest}
use Rattle.cli_convert.proofs.shown_text.quoted.Given as goal

abbrev pub invariant-loop-character : goal.invariant-loop-character
invariant-loop-character l =
    (string_bytes l.line ++ quoted_rest (chars (chars_rest l.character-iterator)) ≡ codes "\"" ++ quoted_rest (chars l.text))
    × IsUtf8 (chars_rest l.character-iterator)
    × (goal.iterator-loop-character).can_next l.character-iterator
    × (goal.iterator-loop-character).is_finite l.character-iterator

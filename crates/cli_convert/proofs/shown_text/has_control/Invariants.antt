use Rattle.std.proofs.Common.{◌≡◌, chars, IsUtf8}
use Rattle.std.specs.List.{list_any}
use Rattle.std.specs.Str.Iter.{chars_rest}
use Rattle.cli_convert.specs.Shown.{is_control}
use Rattle.cli_convert.proofs.shown_text.has_control.Given as goal

abbrev pub invariant-loop-character : goal.invariant-loop-character
invariant-loop-character l =
    (list_any is_control (chars l.text) ≡ list_any is_control (chars (chars_rest l.character-iterator)))
    × IsUtf8 (chars_rest l.character-iterator)
    × (goal.iterator-loop-character).can_next l.character-iterator
    × (goal.iterator-loop-character).is_finite l.character-iterator

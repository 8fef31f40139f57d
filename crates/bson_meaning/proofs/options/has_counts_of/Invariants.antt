use Rattle.std.proofs.Common.{◌↔◌, chars, IsUtf8}
use Rattle.std.specs.Str.Iter.{chars_rest}
use Rattle.bson_meaning.specs.Counts.{StandAlike}
use Rattle.bson_meaning.proofs.options.has_counts_of.Given as goal

abbrev pub invariant-loop-character : goal.invariant-loop-character
invariant-loop-character l =
    (StandAlike (chars l.text) (chars l.other) (chars l.other) ↔ StandAlike (chars l.text) (chars l.other) (chars (chars_rest l.character-iterator)))
    × IsUtf8 (chars_rest l.character-iterator)
    × (goal.iterator-loop-character).can_next l.character-iterator
    × (goal.iterator-loop-character).is_finite l.character-iterator

use Rattle.std.proofs.Common.{◌≡◌, chars, IsUtf8, ◌+◌, ◌≤◌}
use Rattle.std.specs.Str.Iter.{chars_rest}
use Rattle.bson_meaning.specs.Counts.{count}
use Rattle.bson_meaning.proofs.options.count_of.Given as goal

abbrev pub invariant-loop-other : goal.invariant-loop-other
invariant-loop-other l =
    (l.count + count l.character (chars (chars_rest l.other-iterator)) ≡ count l.character (chars l.text))
    × (l.count + (goal.iterator-loop-other).remaining l.other-iterator ≤ (goal.iterator-loop-other).remaining l.initial.other-iterator)
    × IsUtf8 (chars_rest l.other-iterator)
    × (goal.iterator-loop-other).can_next l.other-iterator
    × (goal.iterator-loop-other).is_finite l.other-iterator

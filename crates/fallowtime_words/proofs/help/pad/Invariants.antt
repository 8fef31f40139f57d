use Rattle.std.proofs.Common.{◌≡◌, ◌-◌, length, string_bytes}
use Rattle.fallowtime_words.specs.Overview.{padded}
use Rattle.fallowtime_words.proofs.help.pad.Given as goal

abbrev pub invariant-loop-text : goal.invariant-loop-text
invariant-loop-text l = padded l.column (string_bytes l.text) ≡ padded l.column (string_bytes l.initial.text)

abbrev pub decreases-loop-text : goal.decreases-loop-text
decreases-loop-text l = l.column - length (string_bytes l.text)

use Rattle.std.proofs.Common.{◌≡◌, ◌++◌, drop, string_bytes}
use Rattle.fallowtime_words.specs.Overview.{rows_text}
use Rattle.fallowtime_words.proofs.help.push_rows.Given as goal

abbrev pub invariant-loop-row : goal.invariant-loop-row
invariant-loop-row l = string_bytes l.text ++ rows_text (drop l.row-index l.rows) ≡ string_bytes l.initial.text ++ rows_text l.rows

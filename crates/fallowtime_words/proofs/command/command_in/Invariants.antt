use Rattle.std.proofs.Common.{◌≡◌, drop}
use Rattle.fallowtime_words.specs.Reading.{command_in}
use Rattle.fallowtime_words.proofs.command.command_in.Given as goal

abbrev pub invariant-loop-row : goal.invariant-loop-row
invariant-loop-row l = command_in (drop l.row-index l.rows) l.name ≡ command_in l.rows l.name

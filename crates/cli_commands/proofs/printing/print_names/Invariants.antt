use Rattle.std.specs.Prelude.{string_bytes}
use Rattle.std.proofs.Common.{take, map}
use Rattle.cli_commands.specs.Lines.{line}
use Rattle.cli_commands.proofs.PrintLemmas.{FirstPassed}
use Rattle.cli_commands.proofs.printing.print_names.Given as goal

-- the first ones were written, and no write has failed
abbrev pub invariant-loop-name : goal.invariant-loop-name
invariant-loop-name g l = FirstPassed line (map string_bytes (take l.name-index l.names)) (g.O.Sink.tally l.fn.output) (g.O.Sink.tally l.output)

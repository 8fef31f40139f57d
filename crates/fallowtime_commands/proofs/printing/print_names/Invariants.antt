use Rattle.std.proofs.Common.{take, map}
use Rattle.cli_convert.specs.Parts.{InParts, Passed}
use Rattle.std.specs.Prelude.{ℕ, List, string_bytes}
use Rattle.fallowtime_commands.specs.Printing.{IsNameLine}
use Rattle.fallowtime_commands.proofs.printing.print_names.Given as goal

abbrev pub invariant-loop-name : goal.invariant-loop-name
invariant-loop-name g l = (out : List ℕ) × Passed (g.O.Sink.tally l.fn.output) (g.O.Sink.tally l.output) out × InParts IsNameLine out (map string_bytes (take l.name-index l.names))

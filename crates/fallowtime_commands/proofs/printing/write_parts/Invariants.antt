use Rattle.std.proofs.Common.{◌≡◌, take}
use Rattle.std.specs.Io.KnownBytes.{Appends}
use Rattle.cli_commands.specs.Lines.{concatenation}
use Rattle.fallowtime_commands.proofs.printing.write_parts.Given as goal

abbrev pub invariant-loop-part : goal.invariant-loop-part
invariant-loop-part g l = record {
  fine : (g.O.Sink.tally l.output).failures ≡ (g.O.Sink.tally l.fn.output).failures;
  went : Appends (g.O.Sink.tally l.fn.output).taken (g.O.Sink.tally l.output).taken (concatenation (take l.part-index l.parts));
}

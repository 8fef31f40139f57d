use Rattle.std.proofs.Common.{◌≡◌, take}
use Rattle.std.specs.Io.KnownBytes.{Appends}
use Rattle.cli_commands.specs.Lines.{concatenation}
use Rattle.cli_commands.proofs.lines.write_parts.Given as goal

abbrev pub invariant-loop-part : goal.invariant-loop-part
invariant-loop-part g l = record {
  fine : (g.S.Sink.tally l.sink).failures ≡ (g.S.Sink.tally l.fn.sink).failures;
  went : Appends (g.S.Sink.tally l.fn.sink).taken (g.S.Sink.tally l.sink).taken (concatenation (take l.part-index l.parts));
}

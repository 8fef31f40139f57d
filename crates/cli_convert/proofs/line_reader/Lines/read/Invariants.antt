use Rattle.std.proofs.Common.{◌≡◌}
use Rattle.cli_convert.specs.LineReader.{waiting}
use Rattle.cli_convert.proofs.CollectLemmas.{Collects}
use Rattle.cli_convert.proofs.line_reader.Lines.read.Given as goal

abbrev pub invariant-loop-piece : goal.invariant-loop-piece
invariant-loop-piece g l = record {
  fine : (g.S.Source.feed l.source).failures ≡ (g.S.Source.feed l.fn.source).failures;
  so_far : Collects (waiting l.fn.self) (g.S.Source.feed l.fn.source).supply (g.S.Source.feed l.source).supply (waiting l.self) l.line l.begun l._piece;
}

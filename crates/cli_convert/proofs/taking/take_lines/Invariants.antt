use Rattle.bson_base.specs.Device.{CanFail}
use Rattle.cli_convert.specs.LineReader.{waiting}
use Rattle.cli_convert.proofs.TakeLemmas.{SoFar}
use Rattle.cli_convert.proofs.taking.take_lines.Given as goal

abbrev pub invariant-loop-index : goal.invariant-loop-index
invariant-loop-index g l = record {
  so_far : SoFar g.W.Take.takes l.index (g.I.Source.feed l.fn.input) (g.I.Source.feed l.input) (waiting l.room.lines) l.fn.target l.target;
  can_fail : CanFail (g.I.Source.feed l.input);
  can_take : g.W.Take.can_take l.target;
}

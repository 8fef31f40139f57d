use Rattle.std.proofs.Common.{◌≡◌, ◌≤◌, ◌-◌, length, take}
use Rattle.std.specs.Io.KnownBytes.{Appends}
use Rattle.bson_base.proofs.device.write_all.Given as goal

abbrev pub invariant-loop-at : goal.invariant-loop-at
invariant-loop-at g l = record {
  within : l.at ≤ length l.bytes;
  fine : (g.S.Sink.tally l.sink).failures ≡ (g.S.Sink.tally l.fn.sink).failures;
  so_far : Appends (g.S.Sink.tally l.fn.sink).taken (g.S.Sink.tally l.sink).taken (take l.at l.bytes);
}

abbrev pub decreases-loop-at : goal.decreases-loop-at
decreases-loop-at g l = length l.bytes - l.at

use Rattle.std.proofs.Common.{◌≡◌, ◌≤◌, ◌-◌, length, take}
use Rattle.bson_base.specs.Device.{Gives}
use Rattle.bson_base.proofs.device.read_full.Given as goal

abbrev pub invariant-loop-at : goal.invariant-loop-at
invariant-loop-at g l = record {
  within : l.at ≤ length l.buf;
  fine : (g.S.Source.feed l.source).failures ≡ (g.S.Source.feed l.fn.source).failures;
  so_far : Gives (g.S.Source.feed l.fn.source).supply (g.S.Source.feed l.source).supply (take l.at l.buf);
}

abbrev pub decreases-loop-at : goal.decreases-loop-at
decreases-loop-at g l = length l.buf - l.at

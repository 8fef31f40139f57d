use Rattle.std.proofs.Common.{◌≡◌, ◌<◌, ◌-◌, ◌^◌, vec_len}
use Rattle.bson_base.specs.Device.{Gives}
use Rattle.bson_base.proofs.whole.read_all.Given as goal

abbrev pub invariant-loop-n : goal.invariant-loop-n
invariant-loop-n g l = record {
  fine : (g.S.Source.feed l.source).failures ≡ (g.S.Source.feed l.fn.source).failures;
  so_far : Gives (g.S.Source.feed l.fn.source).supply (g.S.Source.feed l.source).supply l.bytes.items;
  room : 0 < vec_len l.chunk;
}

-- each round but the last takes a whole chunk
abbrev pub decreases-loop-n : goal.decreases-loop-n
decreases-loop-n g l = 2 ^ 64 - vec_len l.bytes

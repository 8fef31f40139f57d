use Rattle.std.proofs.Common.{◌≡◌, ◌++◌}
use Rattle.std.specs.Vec.Iter.{into_iter_items}
use Rattle.bson_pairs.specs.Putting.{put_each}
use Rattle.bson_pairs.proofs.growing.GrowingPairs.put_each.Given as goal

abbrev pub invariant-loop-pair : goal.invariant-loop-pair
invariant-loop-pair g l = record {
  put : l.self ≡ put_each l.yielded l.initial.self;
  left : l.yielded ++ into_iter_items l.pair-iterator ≡ into_iter_items l.initial.pair-iterator;
}

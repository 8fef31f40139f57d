use Rattle.std.proofs.Common.{◌≡◌, ◌+◌, length}
use Rattle.std.specs.Vec.Iter.{into_iter_items}
use Rattle.bson_raw.specs.Buffer.{array_buffer_bytes, next_place}
use Rattle.bson_raw.specs.Pairs.{items_from}
use Rattle.bson_raw.proofs.BuildLemmas.{OnTheWay}
use Rattle.bson_raw.proofs.array_buf.RawArrayBuf.from_iter.Given as goal

abbrev pub invariant-loop-value : goal.invariant-loop-value
invariant-loop-value l = record {
  way : OnTheWay (items_from 0 l.fn.values.items) (items_from (next_place l.array) (into_iter_items l.value-iterator)) (array_buffer_bytes l.array);
  place : next_place l.array + length (into_iter_items l.value-iterator) ≡ length l.fn.values.items;
}

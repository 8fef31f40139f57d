use Rattle.std.proofs.Common.{◌≡◌, ◌≤◌, ◌++◌, length, vec_capacity}
use Rattle.bson_pairs.specs.Index.{places_of}
use Rattle.bson_pairs.specs.Keyed.{key_bytes}
use Rattle.bson_pairs.proofs.growing_keys.GrowingKeys.finish.Given as goal

abbrev pub invariant-loop-place : goal.invariant-loop-place
invariant-loop-place l = record {
  all : l.order.items ++ l.place-iterator ≡ places_of (key_bytes l.texts.items);
  room : length (places_of (key_bytes l.texts.items)) ≤ vec_capacity l.order;
}

use Rattle.std.proofs.Common.{ℤ, take}
use Rattle.std.specs.Prelude.{IsTrue}
use Rattle.bson_store.specs.Lists.{Ascends, is_among}
use Rattle.bson_store.proofs.indexed.rising.once_each.Given as goal

abbrev pub invariant-loop-place : goal.invariant-loop-place
invariant-loop-place l = record {
  ascending : Ascends l.out.items;
  all : (p : ℤ) → IsTrue (is_among p (take l.place-index l.places)) → IsTrue (is_among p l.out.items);
}

use Rattle.std.proofs.Common.{◌≡◌, ◌≢◌, ◌++◌, ℕ, ℤ, List, length}
use Rattle.std.specs.Vec.Iter.{into_iter_items, into_iter_len}
use Rattle.bson_store.specs.Find.{FindEach, MissEach, RenewEach, kinds_of}
use Rattle.bson_store.proofs.indexed.indexes.noting.Given as goal

abbrev pub invariant-loop-index : goal.invariant-loop-index
invariant-loop-index l = record {
  kept : (c : List ℕ) (p : ℤ) (b : List ℕ) → FindEach l.fn.list.items c p b → FindEach (into_iter_items l.index-iterator) c p b × FindEach l.new.items c p b;
  renewed : (p : ℤ) (b : List ℕ) → MissEach l.fn.list.items p b → MissEach (into_iter_items l.index-iterator) p b × RenewEach l.new.items p b l.body;
  others : (p : ℤ) (b : List ℕ) → p ≢ l.place → MissEach l.fn.list.items p b → MissEach (into_iter_items l.index-iterator) p b × MissEach l.new.items p b;
  same : kinds_of (l.new.items ++ into_iter_items l.index-iterator) ≡ kinds_of l.fn.list.items;
  noted : FindEach l.new.items l.coll l.place l.body;
  long : length (into_iter_items l.index-iterator) ≡ into_iter_len l.index-iterator;
  next : goal.iterator-loop-index.can_next l.index-iterator;
  finite : goal.iterator-loop-index.is_finite l.index-iterator;
}

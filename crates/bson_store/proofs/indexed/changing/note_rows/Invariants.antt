use Rattle.std.proofs.Common.{◌≡◌, ◌+ℤ◌, pos, ℕ, ℤ, List, [], take}
use Rattle.bson_store.specs.Find.{Finds, Misses}
use Rattle.store_table.specs.Rows.{docs_from}
use Rattle.bson_store.specs.Gathering.{HasNoneAt}
use Rattle.bson_store.specs.Kept.{FindsRows, StayOrGo}
use Rattle.bson_store.proofs.indexed.changing.note_rows.Given as goal

abbrev pub invariant-loop-row : goal.invariant-loop-row
invariant-loop-row l = record {
  at : l.place ≡ l.last +ℤ pos l.row-index;
  noted : FindsRows l.indexes (docs_from (l.last +ℤ pos 1) l.coll (take l.row-index l.rows));
  kept : (c : List ℕ) (p : ℤ) (b : List ℕ) → Finds l.fn.indexes c p b → Finds l.indexes c p b;
  others : (p : ℤ) (b : List ℕ) → HasNoneAt p (docs_from (l.last +ℤ pos 1) l.coll (take l.row-index l.rows)) → Misses l.fn.indexes p b → Misses l.indexes p b;
  same : StayOrGo l.fn.indexes l.indexes;
  none : l.fn.indexes.list.items ≡ [] → l.indexes.list.items ≡ [];
}

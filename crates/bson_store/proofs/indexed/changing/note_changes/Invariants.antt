use Rattle.std.proofs.Common.{◌≡◌, ℕ, ℤ, List, [], take}
use Rattle.bson_store.specs.Find.{Misses}
use Rattle.store_table.specs.Change.{with_changes}
use Rattle.store_table.specs.Rows.{TableRow}
use Rattle.bson_store.specs.Changing.{ForgetsRemoved, NoneGives}
use Rattle.bson_store.specs.Kept.{FindsRows, StayOrGo}
use Rattle.bson_store.proofs.indexed.changing.note_changes.Given as goal

abbrev pub invariant-loop-change : goal.invariant-loop-change
invariant-loop-change l = record {
  noted : (docs : List TableRow) → FindsRows l.fn.indexes docs → FindsRows l.indexes (with_changes (take l.change-index l.changes) docs);
  gone : ForgetsRemoved (take l.change-index l.changes) l.indexes;
  others : (p : ℤ) (b : List ℕ) → NoneGives p (take l.change-index l.changes) → Misses l.fn.indexes p b → Misses l.indexes p b;
  none : l.fn.indexes.list.items ≡ [] → l.indexes.list.items ≡ [];
  same : StayOrGo l.fn.indexes l.indexes;
}

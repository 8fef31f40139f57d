use Rattle.std.proofs.Common.{List, take}
use Rattle.store_table.specs.Change.{with_changes}
use Rattle.store_table.specs.Rows.{TableRow}
use Rattle.bson_store.specs.Draft.{ShowRows}
use Rattle.bson_store.proofs.draft.Draft.rows.Given as goal

abbrev pub invariant-loop-change : goal.invariant-loop-change
invariant-loop-change l = (docs : List TableRow) → ShowRows l.coll l.fn.rows.items docs → ShowRows l.coll l.rows.items (with_changes (take l.change-index l.change-items) docs)

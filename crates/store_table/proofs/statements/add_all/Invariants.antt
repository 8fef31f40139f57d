use Rattle.std.proofs.Common.{◌≡◌, ◌++◌, ◌+ℤ◌, pos, List, take, IsTrue}
use Rattle.sqlite.specs.State.{HasCleanDisk, Survives}
use Rattle.sqlite.specs.Held.{state}
use Rattle.store_table.specs.Open.{HasCommitted}
use Rattle.store_table.specs.Beside.{SparesOthers}
use Rattle.store_table.specs.Rows.{TableRow, HoldsRows, Inside, docs_from}
use Rattle.store_table.proofs.statements.add_all.Given as goal

abbrev pub invariant-loop-row : goal.invariant-loop-row
invariant-loop-row g l =
    let old = state g.S.Store l.fn.conn in
    let now = state g.S.Store l.tx.conn.now in
    record {
      same : l.tx.conn.ghost_name ≡ l.initial.tx.conn.ghost_name;
      survives : Survives old now (λ _. ⊥);
      mode : HasCleanDisk now → IsTrue now.in_transaction;
      committed : HasCleanDisk now → HasCommitted old now;
      spared : HasCleanDisk now → (docs : List TableRow) → HoldsRows old docs → SparesOthers old.now now.now;
      inside : HasCleanDisk now → (docs : List TableRow) → HoldsRows old docs → Inside now docs (docs ++ docs_from (l.last +ℤ pos 1) l.coll (take l.row-index l.rows));
      place : l.place ≡ l.last +ℤ pos l.row-index;
    }

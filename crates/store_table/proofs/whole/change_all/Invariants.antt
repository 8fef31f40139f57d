use Rattle.std.proofs.Common.{◌≡◌, ◌+ℤ◌, pos, List, take, IsTrue}
use Rattle.sqlite.specs.State.{HasCleanDisk, Survives}
use Rattle.sqlite.specs.Held.{state}
use Rattle.store_table.specs.Open.{HasCommitted}
use Rattle.store_table.specs.Beside.{SparesOthers}
use Rattle.store_table.specs.Change.{with_changes}
use Rattle.store_table.specs.Rows.{TableRow, AreBelow, HoldsRows, Inside}
use Rattle.store_table.proofs.whole.change_all.Given as goal

abbrev pub invariant-loop-change : goal.invariant-loop-change
invariant-loop-change g l =
    let old = state g.S.Store l.fn.conn in
    let now = state g.S.Store l.tx.conn.now in
    record {
      same : l.tx.conn.ghost_name ≡ l.initial.tx.conn.ghost_name;
      survives : Survives old now (λ _. ⊥);
      mode : HasCleanDisk now → IsTrue now.in_transaction;
      committed : HasCleanDisk now → HasCommitted old now;
      spared : HasCleanDisk now → (docs : List TableRow) → HoldsRows old docs → SparesOthers old.now now.now;
      inside : HasCleanDisk now → (docs : List TableRow) → HoldsRows old docs → Inside now docs (with_changes (take l.change-index l.changes) docs);
      below : HasCleanDisk now → (docs : List TableRow) → HoldsRows old docs → AreBelow (l.greatest +ℤ pos 1) (with_changes (take l.change-index l.changes) docs);
    }

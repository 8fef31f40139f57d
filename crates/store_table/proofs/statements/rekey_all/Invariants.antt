use Rattle.std.proofs.Common.{◌≡◌, List, take, IsTrue}
use Rattle.sqlite.specs.State.{HasCleanDisk, Survives}
use Rattle.sqlite.specs.Held.{state}
use Rattle.store_table.specs.Open.{HasCommitted}
use Rattle.store_table.specs.Beside.{SparesOthers}
use Rattle.store_table.specs.Keys.{PutsKeys}
use Rattle.store_table.specs.Rows.{TableRow, HoldsRows, Inside, with_keys_at}
use Rattle.store_table.proofs.statements.rekey_all.Given as goal

abbrev pub invariant-loop-key : goal.invariant-loop-key
invariant-loop-key g l =
    let old = state g.S.Store l.fn.conn in
    let now = state g.S.Store l.tx.conn.now in
    record {
      same : l.tx.conn.ghost_name ≡ l.initial.tx.conn.ghost_name;
      survives : Survives old now (λ _. ⊥);
      mode : HasCleanDisk now → IsTrue now.in_transaction;
      committed : HasCleanDisk now → HasCommitted old now;
      puts : HasCleanDisk now → PutsKeys old.step_limit (take l.key-index l.keys) old.now now.now;
      spared : HasCleanDisk now → (docs : List TableRow) → HoldsRows old docs → SparesOthers old.now now.now;
      inside : HasCleanDisk now → (docs : List TableRow) → HoldsRows old docs → Inside now docs (with_keys_at (take l.key-index l.keys) docs);
    }

use Rattle.sqlite.specs.Held.{state}
use Rattle.store_table.specs.Schema.{HasStoreTable}
use Rattle.store_table.specs.Table.{table_state}
use Rattle.bson_store.proofs.AddLemmas.{known_own, opened_kept}
use Rattle.bson_store.proofs.indexed.table.IndexedTable.open.Goals as goal

pub invariant_of-result : goal.invariant_of-result
invariant_of-result g c =
    let old = state g.S.Store c.args.connection in
    let shown = c.unwrap_or-shown.result in
    record {
      kept = ∣ opened_kept (g.C.RowCheck.renews c.args.check.now) old (table_state g.S.Store c.in-Ok.table) shown c.new.result c.new.ensures
          (known_own c.is_own.result shown (HasStoreTable old.now.schema) (rw c.schema.ensures.value at c.is_own.ensures) c.unwrap_or-shown.ensures) c.in-Ok.ensures.opened ∣₁;
    }

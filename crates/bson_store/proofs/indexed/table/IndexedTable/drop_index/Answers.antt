use Rattle.std.proofs.Math.Logic.{∥∥₁_map}
use Rattle.store_table.specs.Table.{table_state}
use Rattle.bson_store.proofs.KeepLemmas.{others_kept}
use Rattle.bson_store.proofs.indexed.table.IndexedTable.drop_index.Goals as goal

pub invariant_of-self : goal.invariant_of-self
invariant_of-self g c = record { kept = ∥∥₁_map c.args.self.now.kept (others_kept (table_state g.S.Store c.args.self.now.table) c.args.self.now.indexes c.remove.new.self c.remove.ensures.none c.remove.ensures.kept) }

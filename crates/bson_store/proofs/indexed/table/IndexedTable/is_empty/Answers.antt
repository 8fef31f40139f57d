use Rattle.std.proofs.Math.Logic.{∥∥₁_map}
use Rattle.store_table.specs.Table.{table_state}
use Rattle.bson_store.proofs.KeepLemmas.{read_keeps}
use Rattle.bson_store.proofs.indexed.table.IndexedTable.is_empty.Goals as goal

pub invariant_of-self : goal.invariant_of-self
invariant_of-self g c = record { kept = ∥∥₁_map c.args.self.now.kept (read_keeps (table_state g.S.Store c.args.self.now.table) (table_state g.S.Store c.is_empty.new.self) c.args.self.now.indexes _ c.is_empty.ensures.moves (λ docs after p. p.same)) }

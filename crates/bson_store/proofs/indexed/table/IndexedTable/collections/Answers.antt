use Rattle.std.proofs.Math.Logic.{∥∥₁_map}
use Rattle.store_table.specs.Table.{table_state}
use Rattle.bson_store.proofs.KeepLemmas.{read_keeps}
use Rattle.bson_store.proofs.indexed.table.IndexedTable.collections.Goals as goal

pub invariant_of-self : goal.invariant_of-self
invariant_of-self g c = record { kept = ∥∥₁_map c.args.self.now.kept (read_keeps (table_state g.S.Store c.args.self.now.table) (table_state g.S.Store c.collections.new.self) c.args.self.now.indexes _ c.collections.ensures.moves (λ docs after p. p.same)) }

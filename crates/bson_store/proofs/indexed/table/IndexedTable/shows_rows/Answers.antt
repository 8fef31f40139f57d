use Rattle.std.proofs.Math.Logic.{∥∥₁_map}
use Rattle.store_table.specs.Table.{table_state}
use Rattle.bson_store.proofs.AddLemmas.{looked_kept}
use Rattle.bson_store.proofs.KeepLemmas.{read_keeps}
use Rattle.bson_store.proofs.indexed.table.IndexedTable.shows_rows.Goals as goal

pub invariant_of-self : goal.invariant_of-self
invariant_of-self g c = record { kept = ∥∥₁_map c.args.self.now.kept (read_keeps (table_state g.S.Store c.args.self.now.table) (table_state g.S.Store c.is_empty.new.self) c.args.self.now.indexes _ c.is_empty.ensures.moves (λ docs after p. p.same)) }

pub invariant_of-self-in-Break-branch-2 : goal.invariant_of-self-in-Break-branch-2
invariant_of-self-in-Break-branch-2 g c = record { kept = ∥∥₁_map c.args.self.now.kept (read_keeps (table_state g.S.Store c.args.self.now.table) (table_state g.S.Store c.shows_rows.new.self) c.args.self.now.indexes _ c.shows_rows.ensures.moves (λ docs after p. p.same)) }

pub invariant_of-self-2 : goal.invariant_of-self-2
invariant_of-self-2 g c =
    let new = table_state g.S.Store c.shows_rows.new.self in
    let ixs = c.args.self.now.indexes in
    record {
      kept = ∥∥₁_map c.args.self.now.kept
          (λ h. looked_kept new ixs c.in_ok-self.field-0 c.if-self.false c.in_ok-self.ensures.shows (read_keeps (table_state g.S.Store c.args.self.now.table) new ixs _ c.shows_rows.ensures.moves (λ docs after p. p.same) h));
    }

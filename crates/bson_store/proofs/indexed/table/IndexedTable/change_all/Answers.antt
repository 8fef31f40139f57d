use Rattle.std.proofs.Common.{sym, subst}
use Rattle.std.proofs.Math.Logic.{∥∥₁_map}
use Rattle.store_table.specs.Change.{with_changes}
use Rattle.store_table.specs.Table.{table_state}
use Rattle.bson_store.specs.Kept.{FindsRows}
use Rattle.bson_store.proofs.KeepLemmas.{keeps, change_refused}
use Rattle.bson_store.proofs.indexed.table.IndexedTable.change_all.Goals as goal

pub invariant_of-self : goal.invariant_of-self
invariant_of-self g c = record { kept = ∥∥₁_map c.args.self.now.kept (change_refused (table_state g.S.Store c.args.self.now.table) (table_state g.S.Store c.change_all.new.self) c.args.self.now.indexes (with_changes c.args.changes.now) c.in_err-change_all.field-0.0 c.in_err-change_all.ensures.moves) }

pub invariant_of-self-2 : goal.invariant_of-self-2
invariant_of-self-2 g c = record {
  kept = ∥∥₁_map c.args.self.now.kept
      (keeps (table_state g.S.Store c.args.self.now.table) (table_state g.S.Store c.change_all.new.self) c.args.self.now.indexes c.note_changes.new.indexes _ c.in_ok-change_all.ensures.moves c.note_changes.ensures.none
      (λ clean docs after stands p f. subst (FindsRows c.note_changes.new.indexes) (sym p.done) (c.note_changes.ensures.noted docs f)));
}

use Rattle.std.proofs.Common.{◌≡◌, ◌∙◌, sym, subst, rules, w64, to_z, of_z}
use Rattle.std.proofs.Math.Logic.{∥∥₁_map}
use Rattle.store_table.specs.Rows.{without_place}
use Rattle.store_table.specs.Table.{table_state}
use Rattle.bson_store.specs.Kept.{FindsRows}
use Rattle.bson_store.proofs.KeepLemmas.{keeps, change_refused, removed}
use Rattle.bson_store.proofs.indexed.table.IndexedTable.remove_at.Goals as goal

pub invariant_of-self : goal.invariant_of-self
invariant_of-self g c = record { kept = ∥∥₁_map c.args.self.now.kept (change_refused (table_state g.S.Store c.args.self.now.table) (table_state g.S.Store c.remove_at.new.self) c.args.self.now.indexes (without_place c.args.found.now.place) c.in_err-remove_at.field-0.0 c.in_err-remove_at.ensures.moves) }

pub invariant_of-self-2 : goal.invariant_of-self-2
invariant_of-self-2 g c =
    let place = c.args.found.now.place in
    let same : to_z w64 (of_z w64 place) ≡ place = search rules in
    record {
      kept = ∥∥₁_map c.args.self.now.kept
          (keeps (table_state g.S.Store c.args.self.now.table) (table_state g.S.Store c.remove_at.new.self) c.args.self.now.indexes c.forget.new.self _ c.in_ok-remove_at.ensures.moves c.forget.ensures.none
          (λ clean docs after stands p f. subst (FindsRows c.forget.new.self) (sym p.done) (removed c.args.self.now.indexes c.forget.new.self place docs (λ k q b other h. c.forget.ensures.kept k q b (λ e. other (e ∙ same)) h) f)));
    }

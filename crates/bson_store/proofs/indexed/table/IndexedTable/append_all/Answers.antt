use Rattle.std.proofs.Common.{◌≡◌, ◌+ℤ◌, pos, ℤ, length, subst, sym, ◌∙◌, rules, w64, to_z, of_z}
use Rattle.std.proofs.Math.Logic.{∥∥₁_map}
use Rattle.store_table.specs.Moves.{with_rows}
use Rattle.store_table.specs.Rows.{docs_from}
use Rattle.store_table.specs.Table.{table_state}
use Rattle.bson_store.specs.Gathering.{HasNoneAt}
use Rattle.bson_store.specs.Kept.{FindsRows}
use Rattle.bson_store.proofs.KeepLemmas.{keeps, adds_refused, rows_added}
use Rattle.bson_store.proofs.indexed.table.IndexedTable.append_all.Goals as goal

pub invariant_of-self : goal.invariant_of-self
invariant_of-self g c = record { kept = ∥∥₁_map c.args.self.now.kept (adds_refused (table_state g.S.Store c.args.self.now.table) (table_state g.S.Store c.append_all.new.self) c.args.self.now.indexes (length c.args.rows.now) (with_rows c.args.coll.now c.args.rows.now) c.in_err-last.field-0.0 c.in_err-last.ensures.moves) }

pub invariant_of-self-2 : goal.invariant_of-self-2
invariant_of-self-2 g c =
    let last = c.in_ok-last.last in
    let coll = c.args.coll.now in
    let rows = c.args.rows.now in
    let ixs = c.args.self.now.indexes in
    let jxs = c.note_rows.new.indexes in
    let same : to_z w64 (of_z w64 last) ≡ last = search rules in
    let noted : FindsRows jxs (docs_from (last +ℤ pos 1) coll rows) = subst (λ (p : ℤ). FindsRows jxs (docs_from (p +ℤ pos 1) coll rows)) same c.note_rows.ensures.noted in
    record {
      kept = ∥∥₁_map c.args.self.now.kept
          (keeps (table_state g.S.Store c.args.self.now.table) (table_state g.S.Store c.append_all.new.self) ixs jxs _ c.in_ok-last.ensures.moves c.note_rows.ensures.none
          (λ clean docs after stands p f. rows_added ixs jxs coll rows last docs after (c.in_ok-last.ensures.place clean docs stands) p.done c.note_rows.ensures.kept noted f));
    }

pub returns-clause-forgotten : goal.returns-clause-forgotten
returns-clause-forgotten g c clean docs stands p b far h =
    let last = c.in_ok-last.last in
    let coll = c.args.coll.now in
    let rows = c.args.rows.now in
    let same : to_z w64 (of_z w64 last) ≡ last = search rules in
    c.note_rows.ensures.others p b (subst (λ (q : ℤ). HasNoneAt p (docs_from (q +ℤ pos 1) coll rows)) (sym (same ∙ c.in_ok-last.ensures.place clean docs stands)) far) h

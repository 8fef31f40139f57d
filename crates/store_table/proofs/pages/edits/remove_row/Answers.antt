use Rattle.std.proofs.Common.{arith, ◌≡◌, sym, ap, subst, ◌∙◌, to_z-of_z, to_z, of_z, w64}
use Rattle.sqlite_record.specs.Strict.{IsRecord}
use Rattle.sqlite_store.specs.Db.{Edits}
use Rattle.sqlite_trees.specs.Tree.{without_rowid}
use Rattle.sqlite_btree.proofs.ViewLemmas.{ascends_rows}
use Rattle.sqlite_store.proofs.RowLemmas.{without_rowid-map}
use Rattle.sqlite_store.proofs.ShownLemmas.{without_rowid-shown}
use Rattle.sqlite_store.proofs.DbLemmas.{Each-drop_at_cut, table_reads, named_laid, edited}
use Rattle.store_table.proofs.pages.edits.remove_row.Goals as goal

pub returns-clause-done : goal.returns-clause-done
returns-clause-done g c clean =
    λ schema tree db names.
    let size = g.P.Pages.size c.args.pages.now in
    let pages = g.P.Pages.pages c.args.pages.now in
    let laid = named_laid db names in
    let raw = laid.1.0 in
    let id = to_z w64 (of_z w64 c.args.rowid) in
    let same : id ≡ c.args.rowid = to_z-of_z c.ranges.rowid in
    let done = ((c.in_ok-remove.ensures.done (omega (arith, c.remove.ensures.kept.clean))) _ raw laid.0 laid.1.1).1 in
    let after = g.P.Pages.pages c.remove.new.store in
    subst (λ n. Edits size schema pages after tree (without_rowid n)) same (edited db names done.new done.moves (_, done.fact, Each-drop_at_cut (λ row. IsRecord row.1) _ raw laid.1.2) (without_rowid id)
    (table_reads after done.moves.laid done.fact ∙ without_rowid-map id raw (ascends_rows laid.1.1) ∙ ap (without_rowid id) (sym (table_reads pages laid.0 laid.1.1)))
    (without_rowid-shown _ id))

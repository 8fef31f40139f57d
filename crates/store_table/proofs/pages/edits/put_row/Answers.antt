use Rattle.std.proofs.Common.{arith, ◌≡◌, sym, ap, subst, ◌∙◌, to_z-of_z, to_z, of_z, w64}
use Rattle.sqlite_record.specs.Strict.{IsRecord}
use Rattle.sqlite_store.specs.Catalog.{reals_at}
use Rattle.sqlite_store.specs.Db.{table_row, Edits, shown}
use Rattle.sqlite_trees.specs.declared.store.Shape.TheVariants.{Table}
use Rattle.sqlite_trees.specs.Tree.{put_row}
use Rattle.sqlite_store.proofs.RowLemmas.{put_row-map}
use Rattle.sqlite_store.proofs.ShownLemmas.{put_row-shown}
use Rattle.sqlite_store.proofs.DbLemmas.{Each-put_at_cut, table_reads, named_laid, edited}
use Rattle.store_table.proofs.pages.edits.put_row.Goals as goal

pub returns-clause-done : goal.returns-clause-done
returns-clause-done g c clean =
    λ schema tree db names typed.
    let size = g.P.Pages.size c.args.pages.now in
    let pages = g.P.Pages.pages c.args.pages.now in
    let laid = named_laid db names in
    let raw = laid.1.0 in
    let id = to_z w64 (of_z w64 c.args.rowid) in
    let same : id ≡ c.args.rowid = to_z-of_z c.ranges.rowid in
    let done = ((c.in_ok-insert.ensures.done (omega (arith, c.insert.ensures.kept.clean))) _ raw laid.0 laid.1.1).1 in
    let after = g.P.Pages.pages c.insert.new.store in
    subst (λ n. Edits size schema pages after tree (put_row (table_row (n, c.args.bytes.now)))) same (edited db names done.new done.moves (_, done.fact, Each-put_at_cut (λ row. IsRecord row.1) _ raw _ c.requires.strict laid.1.2) (put_row (table_row (id, c.args.bytes.now)))
    (table_reads after done.moves.laid done.fact ∙ put_row-map (id, c.args.bytes.now) raw ∙ ap (put_row (table_row (id, c.args.bytes.now))) (sym (table_reads pages laid.0 laid.1.1)))
    (put_row-shown _ _ (subst (λ n. shown Table (reals_at schema tree) (table_row (n, c.args.bytes.now)) ≡ table_row (n, c.args.bytes.now)) (sym same) typed)))

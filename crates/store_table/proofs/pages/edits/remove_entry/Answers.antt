use Rattle.std.proofs.Common.{arith, sym, ap, ◌∙◌}
use Rattle.sqlite_btree.proofs.ViewLemmas.{ascends_records}
use Rattle.sqlite_record.specs.Strict.{IsRecord}
use Rattle.sqlite_value.specs.Keys.{plain}
use Rattle.sqlite_store.specs.Db.{record_order}
use Rattle.sqlite_trees.specs.Tree.{remove_entry}
use Rattle.sqlite_store.proofs.RowLemmas.{remove_entry-map}
use Rattle.sqlite_store.proofs.OrderLemmas.{strict, probe_at}
use Rattle.sqlite_store.proofs.ShownLemmas.{remove_entry-shown}
use Rattle.sqlite_store.proofs.DbLemmas.{Each-drop_at_cut, index_reads, named_laid, edited}
use Rattle.store_table.proofs.pages.edits.remove_entry.Goals as goal

pub returns-clause-done : goal.returns-clause-done
returns-clause-done g c clean =
    λ schema tree db names.
    let pages = g.P.Pages.pages c.args.pages.now in
    let entry = c.args.entry.now in
    let laid = named_laid db names in
    let raw = laid.1.0 in
    let done = ((c.in_ok-remove.ensures.done (omega (arith, c.remove.ensures.kept.clean))) (record_order plain) _ raw (strict plain) (probe_at plain entry) laid.0 laid.1.1).1 in
    let after = g.P.Pages.pages c.remove.new.store in
    edited db names done.new done.moves (_, done.fact, Each-drop_at_cut IsRecord _ raw laid.1.2) (remove_entry plain entry)
    (index_reads after done.moves.laid done.fact ∙ remove_entry-map plain entry raw (ascends_records laid.1.1) ∙ ap (remove_entry plain entry) (sym (index_reads pages laid.0 laid.1.1)))
    (remove_entry-shown _ plain entry)

use Rattle.std.proofs.Common.{arith, cond, map, sym, ap, ◌∙◌}
use Rattle.std.proofs.lemmas.Bool.{cond_both}
use Rattle.sqlite_btree.specs.Cut.{Each, put_at_cut}
use Rattle.sqlite_record.specs.Record.{decode}
use Rattle.sqlite_record.specs.Strict.{IsRecord}
use Rattle.sqlite_value.specs.Keys.{entry_cmp, plain}
use Rattle.sqlite_store.specs.Db.{record_order}
use Rattle.sqlite_trees.specs.Tree.{insert_entry}
use Rattle.sqlite_store.proofs.RowLemmas.{insert_entry-map}
use Rattle.sqlite_store.proofs.OrderLemmas.{strict, probe_at, place_for}
use Rattle.sqlite_store.proofs.ShownLemmas.{insert_entry-shown}
use Rattle.sqlite_store.proofs.DbLemmas.{Each-put_at_cut, index_reads, named_laid, edited}
use Rattle.store_table.proofs.pages.edits.add_entry.Goals as goal

pub returns-clause-done : goal.returns-clause-done
returns-clause-done g c clean =
    λ schema tree db names typed.
    let pages = g.P.Pages.pages c.args.pages.now in
    let entry = c.args.entry.now in
    let bytes' = c.args.bytes.now in
    let laid = named_laid db names in
    let raw = laid.1.0 in
    let found = (c.in_ok-insert.ensures.done (omega (arith, c.insert.ensures.kept.clean))) (record_order plain) _ raw (strict plain) (probe_at plain entry) laid.0 laid.1.1 (place_for plain bytes' entry c.requires.encoded) in
    let done = found.1 in
    let after = g.P.Pages.pages c.insert.new.store in
    edited db names done.new done.moves (_, done.fact, cond_both c.in_ok-insert.field-0 _ raw (Each IsRecord) (λ _. Each-put_at_cut IsRecord _ raw _ c.requires.strict laid.1.2) (λ _. laid.1.2)) (insert_entry plain entry)
    (index_reads after done.moves.laid done.fact ∙ ap (λ b. map decode (cond b (put_at_cut (λ x. entry_cmp plain (decode x) entry) raw bytes') raw)) found.0
    ∙ insert_entry-map plain bytes' entry raw c.requires.encoded ∙ ap (insert_entry plain entry) (sym (index_reads pages laid.0 laid.1.1)))
    (insert_entry-shown _ plain _ typed)

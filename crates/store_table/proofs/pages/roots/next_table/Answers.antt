use Rattle.std.proofs.Common.{◌≡◌, ℤ, true, Bool, w64, to_z, of_z, sym, ap, subst₂, ◌∙◌, rules}
use Rattle.sqlite_btree.specs.Batch.{taken}
use Rattle.sqlite_btree.specs.Cut.{from_cut}
use Rattle.sqlite_btree.specs.Stored.{as_row, by_rowid}
use Rattle.sqlite_record.specs.Record.{decode}
use Rattle.store_table.specs.Scans.{IsFirst}
use Rattle.store_table.proofs.RootLemmas.{some_map}
use Rattle.store_table.proofs.pages.roots.next_table.Goals as goal

pub returns-clause-done : goal.returns-clause-done
returns-clause-done g c =
    let is_yes : c.in_ok-first_row.field-0 ≡ true = search rules in
    let same : to_z w64 (of_z w64 c.args.from) ≡ c.args.from = search rules in
    some_map _ _ c.table_in.result (λ page is. (λ clean layout rows laid its. subst₂ (λ (r : ℤ) (b : Bool). IsFirst (from_cut (by_rowid r) rows) (as_row (taken c.first_row.new.batch)) b) same is_yes (c.in_ok-first_row.ensures.done clean layout rows laid its), ap decode (sym c.payload.ensures) ∙ is)) c.table_in.ensures

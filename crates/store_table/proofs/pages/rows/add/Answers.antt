use Rattle.std.proofs.Common.{◌≡◌, ℕ, ℤ, List, Ok, w64, to_z, of_z, subst, subst₂, arith, rules}
use Rattle.sqlite_btree.proofs.Results.{steps_on}
use Rattle.sqlite_value.specs.Order.{Row}
use Rattle.sqlite_pages.specs.Calls.{IsClean}
use Rattle.store_table.specs.Documents.{entry}
use Rattle.store_table.specs.Store.{row_at}
use Rattle.store_table.proofs.PageRowLemmas.{PutsRow, AddsEntry, adds}
use Rattle.store_table.proofs.pages.rows.add.Goals as goal

pub returns-clause-done : goal.returns-clause-done
returns-clause-done g c clean first version docs s below none =
    let size = g.P.Pages.size c.args.pages.now in
    let before = g.P.Pages.pages c.args.pages.now in
    let mid = g.P.Pages.pages c.put_row.new.pages in
    let after = g.P.Pages.pages c.add_entry.new.pages in
    let clean1 : IsClean g.P.Pages c.put_row.new.pages = omega (arith, clean, c.add_entry.ensures.kept.clean) in
    let place : to_z w64 (of_z w64 c.args.place) ≡ c.args.place = search rules in
    let d = row_at c.args.place c.args.coll.now c.args.idkey.now c.args.body.now in
    let put = subst₂ (λ (p : ℤ) (b : List ℕ). PutsRow size before mid c.args.roots.table p b (Ok tt)) place c.as_slice.ensures.value (c.in_ok-put_row.ensures.done clean1) in
    let add = subst (λ (n : ℕ). AddsEntry n mid after c.args.roots.index c.in_ok-entry.entry c.add_entry.result) c.put_row.ensures.kept.same_size (c.add_entry.ensures.done clean) in
    let same : c.in_ok-entry.entry ≡ entry c.args.coll.now c.args.idkey.now c.args.place = search rules in
    adds first size before version c.args.roots.table c.args.roots.index docs s mid after d c.in_ok-bytes.bytes.items c.add_entry.result c.in_ok-bytes.ensures.reads put
    (subst (λ (e : Row). AddsEntry size mid after c.args.roots.index e c.add_entry.result) same add) below none

pub returns-clause-kept : goal.returns-clause-kept
returns-clause-kept g c = steps_on g.met.P.Pages.follows_trans c.put_row.ensures.kept c.add_entry.ensures.kept

use Rattle.std.proofs.Common.{◌≡◌, ℕ, ℤ, Ok, w64, to_z, of_z, subst, arith, rules}
use Rattle.sqlite_btree.proofs.Results.{steps_on}
use Rattle.sqlite_value.specs.Order.{Row}
use Rattle.sqlite_pages.specs.Calls.{IsClean}
use Rattle.store_table.specs.Documents.{entry}
use Rattle.store_table.specs.Store.{row_at}
use Rattle.store_table.proofs.PageRowLemmas.{TakesRow, TakesEntry, removes}
use Rattle.store_table.proofs.pages.rows.remove.Goals as goal

pub returns-clause-done : goal.returns-clause-done
returns-clause-done g c clean first version docs body s has =
    let size = g.P.Pages.size c.args.pages.now in
    let before = g.P.Pages.pages c.args.pages.now in
    let mid = g.P.Pages.pages c.remove_row.new.pages in
    let after = g.P.Pages.pages c.remove_entry.new.pages in
    let clean1 : IsClean g.P.Pages c.remove_row.new.pages = omega (arith, clean, c.remove_entry.ensures.kept.clean) in
    let place : to_z w64 (of_z w64 c.args.place) ≡ c.args.place = search rules in
    let out = subst (λ (p : ℤ). TakesRow size before mid c.args.roots.table p (Ok tt)) place (c.in_ok-remove_row.ensures.done clean1) in
    let lost = subst (λ (n : ℕ). TakesEntry n mid after c.args.roots.index c.in_ok-entry.entry c.remove_entry.result) c.remove_row.ensures.kept.same_size (c.remove_entry.ensures.done clean) in
    let same : c.in_ok-entry.entry ≡ entry c.args.coll.now c.args.idkey.now c.args.place = search rules in
    removes first size before version c.args.roots.table c.args.roots.index docs s mid after (row_at c.args.place c.args.coll.now c.args.idkey.now body) c.remove_entry.result out
    (subst (λ (e : Row). TakesEntry size mid after c.args.roots.index e c.remove_entry.result) same lost) has

pub returns-clause-kept : goal.returns-clause-kept
returns-clause-kept g c = steps_on g.met.P.Pages.follows_trans c.remove_row.ensures.kept c.remove_entry.ensures.kept

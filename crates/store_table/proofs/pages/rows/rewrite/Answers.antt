use Rattle.std.proofs.Common.{◌≡◌, ℕ, ℤ, List, w64, to_z, of_z, subst₂, rules}
use Rattle.store_table.specs.Store.{row_at}
use Rattle.store_table.proofs.PageRowLemmas.{PutsRow, rewrites}
use Rattle.store_table.proofs.pages.rows.rewrite.Goals as goal

pub returns-clause-done : goal.returns-clause-done
returns-clause-done g c clean first version docs old s has =
    let size = g.P.Pages.size c.args.pages.now in
    let before = g.P.Pages.pages c.args.pages.now in
    let after = g.P.Pages.pages c.put_row.new.pages in
    let place : to_z w64 (of_z w64 c.args.place) ≡ c.args.place = search rules in
    let put = subst₂ (λ (p : ℤ) (b : List ℕ). PutsRow size before after c.args.roots.table p b c.put_row.result) place c.as_slice.ensures.value (c.put_row.ensures.done clean) in
    rewrites first size before version c.args.roots.table c.args.roots.index docs s after (row_at c.args.place c.args.coll.now c.args.idkey.now old) c.args.body.now c.in_ok-bytes.bytes.items c.put_row.result c.in_ok-bytes.ensures.reads put has

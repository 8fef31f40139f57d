use Rattle.std.proofs.Common.{◌≡◌, ℕ, ℤ, w64, to_z, of_z, sym, subst, arith, rules}
use Rattle.sqlite_pages.specs.Calls.{IsClean}
use Rattle.sqlite_btree.specs.Stored.{IsLaidIn, as_row, by_rowid}
use Rattle.sqlite_btree.specs.Cut.{from_cut}
use Rattle.store_table.specs.Scans.{IsFirst}
use Rattle.sqlite_btree.specs.Batch.{IsBatchOf, taken}
use Rattle.store_table.proofs.RootLemmas.{first_shown}
use Rattle.store_table.proofs.pages.roots.first_row.Goals as goal

pub returns-clause-done : goal.returns-clause-done
returns-clause-done g c clean layout rows laid table =
    let before : IsClean g.P.Pages c.fill.new.store = omega (arith, clean, c.next.ensures.kept.clean) in
    let filled = c.in_ok-fill.ensures.done before layout rows laid table in
    let valid = subst (λ (n : ℕ). IsBatchOf layout n c.fill.new.batch) (sym c.fill.ensures.kept.same_size) filled.valid in
    let took = c.in_ok-some.ensures.done clean layout (subst (IsLaidIn layout) (sym c.fill.ensures.pages) laid) valid in
    let same : to_z w64 (of_z w64 c.args.from) ≡ c.args.from = search rules in
    subst (λ (r : ℤ). IsFirst (from_cut (by_rowid r) rows) (as_row (taken c.next.new.self)) c.in_ok-some.some) same
    (first_shown as_row c.in_ok-some.some _ layout _ _ _ _ c.fill.new.batch c.next.new.self c.fill.ensures.pages filled took)

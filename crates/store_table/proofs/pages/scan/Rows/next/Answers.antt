use Rattle.std.proofs.Common.{◌≡◌, ◌∙◌, ℕ, true, false, Some, w64, to_z, of_z, ap, sym, subst, subst₂, arith, rules}
use Rattle.sqlite_pages.specs.PageMap.{PageMap}
use Rattle.sqlite_pages.specs.Calls.{IsClean}
use Rattle.sqlite_btree.specs.Cut.{from_cut}
use Rattle.sqlite_btree.specs.Batch.{IsFilled}
use Rattle.sqlite_btree.specs.Stored.{as_row, by_rowid, IsLaidIn, IsTable}
use Rattle.sqlite_btree.proofs.ViewLemmas.{ascends_rows}
use Rattle.sqlite_store.proofs.DbLemmas.{all_fit}
use Rattle.store_table.specs.PageRows.{left_from, IsAmong, Takes, Steps}
use Rattle.store_table.specs.declared.pages.scan.Rows.{Rows}
use Rattle.store_table.proofs.PageScanLemmas.{filled_next, steps_on, ends_filled}
use Rattle.store_table.proofs.pages.scan.Rows.next.Goals as goal

pub returns-then-branch-clause-done : goal.returns-then-branch-clause-done
returns-then-branch-clause-done g c clean layout rows laid table among =
    let is_yes : c.in_ok-take.field-0 ≡ true = search rules in
    subst (Steps layout (g.P.Pages.size c.args.pages.now) (g.P.Pages.pages c.args.pages.now) rows c.args.self.now c.take.new.self) is_yes
    (let took = c.in_ok-take.ensures.done clean layout rows laid table among in
    subst (λ b. Takes layout (g.P.Pages.size c.args.pages.now) (g.P.Pages.pages c.args.pages.now) rows c.args.self.now c.take.new.self b → Steps layout (g.P.Pages.size c.args.pages.now) (g.P.Pages.pages c.args.pages.now) rows c.args.self.now c.take.new.self b) (sym is_yes) (λ t. t) took)

pub returns-clause-done : goal.returns-clause-done
returns-clause-done g c clean layout rows laid table among =
    let size = g.P.Pages.size c.args.pages.now in
    let pages = g.P.Pages.pages c.args.pages.now in
    let old = c.args.self.now in
    let clean2 : IsClean g.P.Pages c.fill.new.store = omega (arith, clean, c.take-2.ensures.kept.clean) in
    let clean1 : IsClean g.P.Pages c.take.new.pages = omega (arith, clean2, c.fill.ensures.kept.clean) in
    let is_no : c.in_ok-take.field-0 ≡ false = search rules in
    let first = subst (Takes layout size pages rows old c.take.new.self) is_no (c.in_ok-take.ensures.done clean1 layout rows laid table among) in
    let from : c.take.new.self.from ≡ Some c.in-Some.from = ap (λ (r : Rows). r.from) first.1 ∙ c.in-Some.is in
    let same : to_z w64 (of_z w64 c.in-Some.from) ≡ c.in-Some.from = search rules in
    let root : c.take.new.self.root ≡ old.root = c.take.ensures.root in
    let table1 = subst (λ r. IsTable size layout r rows) (sym root) table in
    let fills = subst₂ (λ (n : ℕ) (p : PageMap). IsLaidIn layout p → IsTable n layout c.take.new.self.root rows → IsFilled as_row (from_cut (by_rowid (to_z w64 (of_z w64 c.in-Some.from))) rows) layout n p c.fill.new.batch)
    c.take.ensures.kept.same_size c.take.ensures.pages (c.in_ok-fill.ensures.done clean2 layout rows) in
    let filled = subst (λ r. IsFilled as_row (from_cut (by_rowid r) rows) layout size pages c.fill.new.batch) same (fills laid table1) in
    let now : Rows = record { root = c.take.new.self.root; from = c.take.new.self.from; batch = c.fill.new.batch } in
    let within = filled_next layout size pages rows (all_fit table) (ascends_rows table) now c.in-Some.from from filled in
    let takes = subst₂ (λ (n : ℕ) (p : PageMap). IsLaidIn layout p → IsTable n layout now.root rows → IsAmong layout n p rows now → Takes layout n p rows now c.take-2.new.self c.in_ok-some.some)
    (c.fill.ensures.kept.same_size ∙ c.take.ensures.kept.same_size) (c.fill.ensures.pages ∙ c.take.ensures.pages) (c.in_ok-some.ensures.done clean layout rows) in
    steps_on layout size pages rows (all_fit table) (ascends_rows table) old now c.take-2.new.self c.in_ok-some.some (ap (λ f. left_from f rows) (c.in-Some.is ∙ sym from))
    (takes laid table1 within) (λ none. ap (λ f. left_from f rows) from ∙ ends_filled rows c.in-Some.from layout size pages c.fill.new.batch filled none)

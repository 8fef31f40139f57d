use Rattle.std.proofs.Common.{◌≡◌, ℕ, suc, true, false, w64, to_z, of_z, sym, subst, ◌∙◌, arith, rules}
use Rattle.sqlite_btree.proofs.Results.{steps_on}
use Rattle.sqlite_pages.specs.Calls.{IsClean}
use Rattle.sqlite_btree.specs.Batch.{IsBatchOf}
use Rattle.sqlite_btree.specs.Stored.{IsLaidIn, IsTable}
use Rattle.sqlite_store.proofs.DbLemmas.{all_fit}
use Rattle.store_table.proofs.StoreLemmas as store
use Rattle.store_table.proofs.PageLastLemmas.{last_found, none_found}
use Rattle.store_table.proofs.pages.rows.last_row.Goals as goal

pub returns-then-not-some-clause-found : goal.returns-then-not-some-clause-found
returns-then-not-some-clause-found g c clean first version docs s =
    let size = g.P.Pages.size c.args.pages.now in
    let pages = g.P.Pages.pages c.args.pages.now in
    let its = store.its first size pages version c.args.roots.table c.args.roots.index docs s in
    let layout = s.db.layouts (suc (store.tree first size pages version c.args.roots.table c.args.roots.index docs s)) in
    let table = subst (λ (n : ℕ). IsTable size layout n its.rows) (store.table_root first size pages version c.args.roots.table c.args.roots.index docs s) its.table in
    let before : IsClean g.P.Pages c.fill_back.new.store = omega (arith, clean, c.next_back.ensures.kept.clean) in
    let filled = c.in_ok-fill_back.ensures.done before layout its.rows its.laid table in
    let valid = subst (λ (n : ℕ). IsBatchOf layout n c.fill_back.new.batch) (sym c.fill_back.ensures.kept.same_size) filled.valid in
    let took = c.in_ok-some.ensures.done clean layout (subst (IsLaidIn layout) (sym c.fill_back.ensures.pages) its.laid) valid in
    let is_no : c.in_ok-some.some ≡ false = search rules in
    sym (none_found c.in_ok-some.some docs its.rows layout _ _ pages _ c.fill_back.new.batch c.next_back.new.self (all_fit table) (sym (store.are_rows first size pages version c.args.roots.table c.args.roots.index docs s) ∙ its.shows) c.fill_back.ensures.pages filled took is_no)

pub returns-clause-found : goal.returns-clause-found
returns-clause-found g c clean first version docs s =
    let size = g.P.Pages.size c.args.pages.now in
    let pages = g.P.Pages.pages c.args.pages.now in
    let its = store.its first size pages version c.args.roots.table c.args.roots.index docs s in
    let layout = s.db.layouts (suc (store.tree first size pages version c.args.roots.table c.args.roots.index docs s)) in
    let table = subst (λ (n : ℕ). IsTable size layout n its.rows) (store.table_root first size pages version c.args.roots.table c.args.roots.index docs s) its.table in
    let before : IsClean g.P.Pages c.fill_back.new.store = omega (arith, clean, c.next_back.ensures.kept.clean) in
    let filled = c.in_ok-fill_back.ensures.done before layout its.rows its.laid table in
    let valid = subst (λ (n : ℕ). IsBatchOf layout n c.fill_back.new.batch) (sym c.fill_back.ensures.kept.same_size) filled.valid in
    let took = c.in_ok-some.ensures.done clean layout (subst (IsLaidIn layout) (sym c.fill_back.ensures.pages) its.laid) valid in
    let is_yes : c.in_ok-some.some ≡ true = search rules in
    let place : to_z w64 (of_z w64 c.rowid.result) ≡ c.rowid.result = search rules in
    place ∙ c.rowid.ensures ∙ sym (last_found c.in_ok-some.some docs its.rows layout _ _ pages _ c.fill_back.new.batch c.next_back.new.self (all_fit table) (sym (store.are_rows first size pages version c.args.roots.table c.args.roots.index docs s) ∙ its.shows) c.fill_back.ensures.pages filled took is_yes)

pub returns-in_err-some-clause-kept : goal.returns-in_err-some-clause-kept
returns-in_err-some-clause-kept g c = steps_on g.met.P.Pages.follows_trans c.fill_back.ensures.kept c.next_back.ensures.kept

pub returns-in_err-some-clause-pages : goal.returns-in_err-some-clause-pages
returns-in_err-some-clause-pages g c = c.next_back.ensures.pages ∙ c.fill_back.ensures.pages

pub returns-then-not-some-clause-kept : goal.returns-then-not-some-clause-kept
returns-then-not-some-clause-kept g c = steps_on g.met.P.Pages.follows_trans c.fill_back.ensures.kept c.next_back.ensures.kept

pub returns-then-not-some-clause-pages : goal.returns-then-not-some-clause-pages
returns-then-not-some-clause-pages g c = c.next_back.ensures.pages ∙ c.fill_back.ensures.pages

pub returns-clause-kept : goal.returns-clause-kept
returns-clause-kept g c = steps_on g.met.P.Pages.follows_trans c.fill_back.ensures.kept c.next_back.ensures.kept

pub returns-clause-pages : goal.returns-clause-pages
returns-clause-pages g c = c.next_back.ensures.pages ∙ c.fill_back.ensures.pages

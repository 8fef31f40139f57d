use Rattle.std.proofs.Common.{◌≡◌, ◌∙◌, ℕ, ℤ, pos, ◌+ℤ◌, true, false, Bool, w64, to_z, of_z, sym, subst, subst₂, arith, rules}
use Rattle.sqlite_pages.specs.Calls.{IsClean}
use Rattle.sqlite_btree.proofs.Results.{steps_on}
use Rattle.sqlite_btree.specs.Batch.{taken}
use Rattle.sqlite_btree.specs.Cut.{from_cut}
use Rattle.sqlite_btree.specs.Stored.{IsLaidIn, IsTable, as_row, by_rowid}
use Rattle.sqlite_btree.proofs.ViewLemmas.{ascends_rows}
use Rattle.sqlite_store.proofs.DbLemmas.{all_fit}
use Rattle.store_table.specs.Scans.{IsFirst}
use Rattle.store_table.proofs.RootLemmas.{some_then, two_rows}
use Rattle.store_table.proofs.pages.roots.roots_in.Goals as goal

pub returns-clause-found : goal.returns-clause-found
returns-clause-found g c clean layout rows laid its =
    let clean2 : IsClean g.P.Pages c.next_index.new.pages = omega (arith, clean, c.first_row.ensures.kept.clean) in
    let clean1 : IsClean g.P.Pages c.next_table.new.pages = omega (arith, clean2, c.next_index.ensures.kept.clean) in
    let laid1 = subst (IsLaidIn layout) (sym c.next_table.ensures.pages) laid in
    let laid2 = subst (IsLaidIn layout) (sym c.next_index.ensures.pages) laid1 in
    let its1 = subst (λ (n : ℕ). IsTable n layout 1 rows) (sym c.next_table.ensures.kept.same_size) its in
    let its2 = subst (λ (n : ℕ). IsTable n layout 1 rows) (sym c.next_index.ensures.kept.same_size) its1 in
    let one = some_then _ _ _ c.in-Some.is c.in_ok-table.ensures.done in
    let two = some_then _ _ _ c.in-Some-2.is c.in_ok-index.ensures.done in
    let is_no : c.in_ok-first_row.field-0 ≡ false = search rules in
    let same2 : to_z w64 (of_z w64 c.in-Some-checked_add.second) ≡ c.in-Some-checked_add.second = search rules in
    let same3 : to_z w64 (of_z w64 c.in-Some-checked_add-2.third) ≡ c.in-Some-checked_add-2.third = search rules in
    let none = subst₂ (λ (r : ℤ) (b : Bool). IsFirst (from_cut (by_rowid r) rows) (as_row (taken c.first_row.new.batch)) b) same3 is_no (c.in_ok-first_row.ensures.done clean layout rows laid2 its2) in
    let second : c.in-Some-checked_add.second ≡ ((as_row (taken c.next_table.new.batch)).0 +ℤ pos 1) = search rules in
    let third : c.in-Some-checked_add-2.third ≡ ((as_row (taken c.next_index.new.batch)).0 +ℤ pos 1) = search rules in
    record {
      first = as_row (taken c.next_table.new.batch);
      second = as_row (taken c.next_index.new.batch);
      all = two_rows rows (as_row (taken c.next_table.new.batch)) (as_row (taken c.next_index.new.batch)) (as_row (taken c.first_row.new.batch)) c.in-Some-checked_add.second c.in-Some-checked_add-2.third (all_fit its) (ascends_rows its) (one.0 clean1 layout rows laid its) second (subst (λ (r : ℤ). IsFirst (from_cut (by_rowid r) rows) (as_row (taken c.next_index.new.batch)) true) same2 (two.0 clean2 layout rows laid1 its1)) third none;
      names_table = one.1;
      names_index = two.1;
    }

pub returns-in_err-index-clause-kept : goal.returns-in_err-index-clause-kept
returns-in_err-index-clause-kept g c = steps_on g.met.P.Pages.follows_trans c.next_table.ensures.kept c.next_index.ensures.kept

pub returns-in_err-index-clause-pages : goal.returns-in_err-index-clause-pages
returns-in_err-index-clause-pages g c = c.next_index.ensures.pages ∙ c.next_table.ensures.pages

pub returns-in_default-2-clause-kept : goal.returns-in_default-2-clause-kept
returns-in_default-2-clause-kept g c = steps_on g.met.P.Pages.follows_trans c.next_table.ensures.kept c.next_index.ensures.kept

pub returns-in_default-2-clause-pages : goal.returns-in_default-2-clause-pages
returns-in_default-2-clause-pages g c = c.next_index.ensures.pages ∙ c.next_table.ensures.pages

pub returns-in_default-checked_add-2-clause-kept : goal.returns-in_default-checked_add-2-clause-kept
returns-in_default-checked_add-2-clause-kept g c = steps_on g.met.P.Pages.follows_trans c.next_table.ensures.kept c.next_index.ensures.kept

pub returns-in_default-checked_add-2-clause-pages : goal.returns-in_default-checked_add-2-clause-pages
returns-in_default-checked_add-2-clause-pages g c = c.next_index.ensures.pages ∙ c.next_table.ensures.pages

pub returns-in_err-first_row-clause-kept : goal.returns-in_err-first_row-clause-kept
returns-in_err-first_row-clause-kept g c = steps_on g.met.P.Pages.follows_trans (steps_on g.met.P.Pages.follows_trans c.next_table.ensures.kept c.next_index.ensures.kept) c.first_row.ensures.kept

pub returns-in_err-first_row-clause-pages : goal.returns-in_err-first_row-clause-pages
returns-in_err-first_row-clause-pages g c = c.first_row.ensures.pages ∙ c.next_index.ensures.pages ∙ c.next_table.ensures.pages

pub returns-then-branch-clause-kept : goal.returns-then-branch-clause-kept
returns-then-branch-clause-kept g c = steps_on g.met.P.Pages.follows_trans (steps_on g.met.P.Pages.follows_trans c.next_table.ensures.kept c.next_index.ensures.kept) c.first_row.ensures.kept

pub returns-then-branch-clause-pages : goal.returns-then-branch-clause-pages
returns-then-branch-clause-pages g c = c.first_row.ensures.pages ∙ c.next_index.ensures.pages ∙ c.next_table.ensures.pages

pub returns-clause-kept : goal.returns-clause-kept
returns-clause-kept g c = steps_on g.met.P.Pages.follows_trans (steps_on g.met.P.Pages.follows_trans c.next_table.ensures.kept c.next_index.ensures.kept) c.first_row.ensures.kept

pub returns-clause-pages : goal.returns-clause-pages
returns-clause-pages g c = c.first_row.ensures.pages ∙ c.next_index.ensures.pages ∙ c.next_table.ensures.pages

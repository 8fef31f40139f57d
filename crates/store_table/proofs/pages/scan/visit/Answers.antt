use Rattle.std.proofs.Common.{◌≡◌, ◌∙◌, ◌++◌, ◌∷◌, [], ℕ, ℤ, List, true, false, w64, to_z, of_z, ap, sym, refl, subst, subst₂, arith, rules}
use Rattle.sqlite_pages.specs.PageMap.{PageMap}
use Rattle.sqlite_btree.proofs.Results.{steps_on}
use Rattle.sqlite_btree.specs.Batch.{taken}
use Rattle.sqlite_btree.specs.Stored.{as_row, IsLaidIn, IsTable}
use Rattle.sqlite_record.specs.Record.{decode}
use Rattle.sqlite_store.proofs.DbLemmas.{all_fit}
use Rattle.store_table.specs.Documents.{Doc, of_collection}
use Rattle.store_table.specs.PageRows.{doc_at, IsAmong, Steps}
use Rattle.store_table.proofs.PageScanLemmas.{left_at_first, left_none, left_on}
use Rattle.store_table.proofs.pages.scan.visit.Goals as goal

pub scan-init : goal.scan-init
scan-init g c =
    record {
      kept = search rules;
      pages = refl;
      root = c.new-rows.ensures.root;
      given = λ t. (
        [],
        t,
        λ clean docs are. left_at_first are.table_layout _ _ are.rows c.args.coll.now docs c.new-rows.result (all_fit are.tabled) c.new-rows.ensures.from
            (c.new-rows.ensures.valid _ _) (c.new-rows.ensures.empty _) are.shows,
      );
    }

pub returns-in_err-next-clause-some : goal.returns-in_err-next-clause-some
returns-in_err-next-clause-some g c took =
    let was = c.scan.invariant.given took in
    (was.0, was.1, λ clean docs are. let left = was.2 (omega (arith, clean, c.next.ensures.kept.clean)) docs are in (of_collection c.args.coll.now left.back, left.all))

pub returns-then-not-branch-clause-some : goal.returns-then-not-branch-clause-some
returns-then-not-branch-clause-some g c took =
    let was = c.scan.invariant.given took in
    (was.0, was.1, λ clean docs are. let left = was.2 (omega (arith, clean, c.next.ensures.kept.clean)) docs are in (of_collection c.args.coll.now left.back, left.all))

pub returns-in_default-clause-some : goal.returns-in_default-clause-some
returns-in_default-clause-some g c took =
    let was = c.scan.invariant.given took in
    (was.0, was.1, λ clean docs are. let left = was.2 (omega (arith, clean, c.next.ensures.kept.clean)) docs are in (of_collection c.args.coll.now left.back, left.all))

pub returns-clause-some : goal.returns-clause-some
returns-clause-some g c took =
    let was = c.scan.invariant.given took in
    (was.0, was.1, λ clean docs are. let left = was.2 clean docs are in (of_collection c.args.coll.now left.back, left.all))

pub returns-then-not-branch-clause-whole : goal.returns-then-not-branch-clause-whole
returns-then-not-branch-clause-whole g c clean docs are took all =
    let was = c.scan.invariant.given took in
    let left = was.2 (omega (arith, clean, c.next.ensures.kept.clean)) docs are in
    let is_no : c.in_ok-next.field-0 ≡ false = search rules in
    let steps = subst₂ (λ (n : ℕ) (p : PageMap). IsLaidIn are.table_layout p → IsTable n are.table_layout c.scan.rows.root are.rows → IsAmong are.table_layout n p are.rows c.scan.rows
    → Steps are.table_layout n p are.rows c.scan.rows c.next.new.self c.in_ok-next.field-0) c.scan.invariant.kept.same_size c.scan.invariant.pages (c.in_ok-next.ensures.done clean are.table_layout are.rows) in
    let table = subst (λ r. IsTable (g.P.Pages.size c.args.pages.now) are.table_layout r are.rows) (sym c.scan.invariant.root) are.tabled in
    let none = left_none are.table_layout _ _ are.rows c.args.coll.now docs c.scan.rows c.next.new.self was.0 _ is_no left (steps are.table_laid table left.among) in
    subst (g.V.VisitRows.took c.args.visitor.now c.scan.visitor) (sym none) was.1

pub returns-then-not-hand_on-clause-some : goal.returns-then-not-hand_on-clause-some
returns-then-not-hand_on-clause-some g c took =
    let was = c.scan.invariant.given took in
    let place : ℤ = to_z w64 (of_z w64 c.rowid.result) in
    let given : List Doc = was.0 ++ of_collection c.args.coll.now (doc_at place c.in-Some.row ∷ []) in (
      given,
      c.hand_on.ensures.took c.args.visitor.now was.0 was.1,
      λ clean docs are.
          let left = was.2 (omega (arith, clean, c.next.ensures.kept.clean)) docs are in
          let is_yes : c.in_ok-next.field-0 ≡ true = search rules in
          let steps = subst₂ (λ (n : ℕ) (p : PageMap). IsLaidIn are.table_layout p → IsTable n are.table_layout c.scan.rows.root are.rows → IsAmong are.table_layout n p are.rows c.scan.rows
          → Steps are.table_layout n p are.rows c.scan.rows c.next.new.self c.in_ok-next.field-0) c.scan.invariant.kept.same_size c.scan.invariant.pages (c.in_ok-next.ensures.done clean are.table_layout are.rows) in
          let table = subst (λ r. IsTable (g.P.Pages.size c.args.pages.now) are.table_layout r are.rows) (sym c.scan.invariant.root) are.tabled in
          let reads = ap decode (sym c.payload.ensures) ∙ c.in-Some.ensures in
          let is : place ≡ (as_row (taken c.next.new.self.batch)).0 = search rules in
          let next = left_on are.table_layout _ _ are.rows c.args.coll.now docs c.scan.rows c.next.new.self was.0 c.in-Some.row place _ is_yes left (steps are.table_laid table left.among) reads is in
          (of_collection c.args.coll.now next.back, next.all),
    )

pub scan-preserved : goal.scan-preserved
scan-preserved g c =
    record {
      kept = steps_on g.met.P.Pages.follows_trans c.scan.invariant.kept c.next.ensures.kept;
      pages = c.next.ensures.pages ∙ c.scan.invariant.pages;
      root = c.next.ensures.root ∙ c.scan.invariant.root;
      given = λ took.
          let was = c.scan.invariant.given took in
          let place : ℤ = to_z w64 (of_z w64 c.rowid.result) in
          let given : List Doc = was.0 ++ of_collection c.args.coll.now (doc_at place c.in-Some.row ∷ []) in (
            given,
            c.hand_on.ensures.took c.args.visitor.now was.0 was.1,
            λ clean docs are.
                let left = was.2 (omega (arith, clean, c.next.ensures.kept.clean)) docs are in
                let is_yes : c.in_ok-next.field-0 ≡ true = search rules in
                let steps = subst₂ (λ (n : ℕ) (p : PageMap). IsLaidIn are.table_layout p → IsTable n are.table_layout c.scan.rows.root are.rows → IsAmong are.table_layout n p are.rows c.scan.rows
                → Steps are.table_layout n p are.rows c.scan.rows c.next.new.self c.in_ok-next.field-0) c.scan.invariant.kept.same_size c.scan.invariant.pages (c.in_ok-next.ensures.done clean are.table_layout are.rows) in
                let table = subst (λ r. IsTable (g.P.Pages.size c.args.pages.now) are.table_layout r are.rows) (sym c.scan.invariant.root) are.tabled in
                let reads = ap decode (sym c.payload.ensures) ∙ c.in-Some.ensures in
                let is : place ≡ (as_row (taken c.next.new.self.batch)).0 = search rules in
                left_on are.table_layout _ _ are.rows c.args.coll.now docs c.scan.rows c.next.new.self was.0 c.in-Some.row place _ is_yes left (steps are.table_laid table left.among) reads is,
          );
    }

pub returns-in_err-next-clause-kept : goal.returns-in_err-next-clause-kept
returns-in_err-next-clause-kept g c = steps_on g.met.P.Pages.follows_trans c.scan.invariant.kept c.next.ensures.kept

pub returns-in_err-next-clause-pages : goal.returns-in_err-next-clause-pages
returns-in_err-next-clause-pages g c = c.next.ensures.pages ∙ c.scan.invariant.pages

pub returns-then-not-branch-clause-kept : goal.returns-then-not-branch-clause-kept
returns-then-not-branch-clause-kept g c = steps_on g.met.P.Pages.follows_trans c.scan.invariant.kept c.next.ensures.kept

pub returns-then-not-branch-clause-pages : goal.returns-then-not-branch-clause-pages
returns-then-not-branch-clause-pages g c = c.next.ensures.pages ∙ c.scan.invariant.pages

pub returns-in_default-clause-kept : goal.returns-in_default-clause-kept
returns-in_default-clause-kept g c = steps_on g.met.P.Pages.follows_trans c.scan.invariant.kept c.next.ensures.kept

pub returns-in_default-clause-pages : goal.returns-in_default-clause-pages
returns-in_default-clause-pages g c = c.next.ensures.pages ∙ c.scan.invariant.pages

pub returns-then-not-hand_on-clause-kept : goal.returns-then-not-hand_on-clause-kept
returns-then-not-hand_on-clause-kept g c = steps_on g.met.P.Pages.follows_trans c.scan.invariant.kept c.next.ensures.kept

pub returns-then-not-hand_on-clause-pages : goal.returns-then-not-hand_on-clause-pages
returns-then-not-hand_on-clause-pages g c = c.next.ensures.pages ∙ c.scan.invariant.pages

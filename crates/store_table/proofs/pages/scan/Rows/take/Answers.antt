use Rattle.std.proofs.Common.{◌≡◌, ◌+ℤ◌, ◌-◌, ◌^◌, ℤ, pos, true, false, MatchOption, ap, subst, rules}
use Rattle.sqlite_btree.specs.Batch.{TookFirst}
use Rattle.sqlite_btree.proofs.ViewLemmas.{ascends_rows}
use Rattle.sqlite_store.proofs.DbLemmas.{all_fit}
use Rattle.store_table.proofs.PageScanLemmas.{took_next}
use Rattle.store_table.proofs.pages.scan.Rows.take.Goals as goal

pub returns-then-not-branch-clause-done : goal.returns-then-not-branch-clause-done
returns-then-not-branch-clause-done g c clean layout rows laid table among =
    let self = c.args.self.now in
    let is_no : c.in_ok-next.field-0 ≡ false = search rules in
    let took = subst (TookFirst layout (g.P.Pages.size c.args.pages.now) (g.P.Pages.pages c.args.pages.now) self.batch c.next.new.self) is_no (c.in_ok-next.ensures.done clean layout laid among.valid) in
    (took.0, ap (λ b. record { root = self.root; from = self.from; batch = b }) took.1)

pub returns-clause-done : goal.returns-clause-done
returns-clause-done g c clean layout rows laid table among =
    let self = c.args.self.now in
    let is_yes : c.in_ok-next.field-0 ≡ true = search rules in
    let took = subst (TookFirst layout (g.P.Pages.size c.args.pages.now) (g.P.Pages.pages c.args.pages.now) self.batch c.next.new.self) is_yes (c.in_ok-next.ensures.done clean layout laid among.valid) in
    let last = c.rowid-rowid.ensures in
    took_next layout _ _ rows (all_fit table) (ascends_rows table) self (record { root = self.root; from = c.behind-self.result; batch = c.next.new.self }) c.args.from c.requires among took
    (subst (λ (r : ℤ). MatchOption c.behind-self.result (r ≡ pos (2 ^ 63 - 1)) (λ n. n ≡ (r +ℤ pos 1))) (search rules) c.behind-self.ensures)

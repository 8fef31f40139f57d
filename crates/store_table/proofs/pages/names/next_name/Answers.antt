use Rattle.std.proofs.Common.{◌≡◌, ◌∙◌, Some, true, false, sym, ap, subst, rules}
use Rattle.sqlite_record.specs.Record.{decode}
use Rattle.store_table.specs.PageNames.{IsNext}
use Rattle.store_table.proofs.PageNameLemmas.{finds_no_name, finds_name}
use Rattle.store_table.proofs.pages.names.next_name.Goals as goal

pub returns-then-not-branch-clause-found : goal.returns-then-not-branch-clause-found
returns-then-not-branch-clause-found g c clean last table docs is are =
    let is_no : c.in_ok-find_first.field-0 ≡ false = search rules in
    finds_no_name g.P.Pages c.args.pages.now c.find_first.new.pages _ last table c.args.root docs is clean are _ _ is_no c.in_ok-find_first.ensures.done

pub returns-clause-found : goal.returns-clause-found
returns-clause-found g c clean last table docs is are =
    let is_yes : c.in_ok-find_first.field-0 ≡ true = search rules in
    let reads = ap decode (sym c.payload.ensures) ∙ c.in-Some.ensures in
    subst (λ n. IsNext last docs (Some n)) (sym c.in_ok-from_slice.ensures.items)
    (finds_name g.P.Pages c.args.pages.now c.find_first.new.pages _ last table c.args.root docs is clean are _ _ _ _ _ is_yes c.in_ok-find_first.ensures.done reads)

use Rattle.std.proofs.Common.{◌≡◌, true, sym, ap, ◌∙◌, rules}
use Rattle.sqlite_record.specs.Record.{decode}
use Rattle.store_table.proofs.DocumentLemmas.{row_found}
use Rattle.store_table.proofs.pages.look.body_at.Goals as goal

pub returns-clause-found : goal.returns-clause-found
returns-clause-found g c clean docs are =
    let is_yes : c.in_ok-some.some ≡ true = search rules in
    let found = c.in_ok-some.ensures.done clean are.table_layout are.rows are.table_laid are.tabled in
    let reads = ap decode (sym c.as_slice.ensures.value) ∙ c.in-Some.ensures in
    let r = row_found docs are.rows _ _ _ _ _ _ is_yes are.shows found reads in
    let coll = c.is_same.ensures.0 (search rules) in
    let idkey = c.is_same-2.ensures.0 (search rules) in
    (r.0, r.1, r.2 ∙ coll, r.3 ∙ idkey, r.4 ∙ sym c.in_ok-from_slice.ensures.items)

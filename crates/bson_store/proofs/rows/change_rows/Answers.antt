use Rattle.std.proofs.Common.{◌≡◌, OnOk, subst, sym, w64, to_z, of_z, rules}
use Rattle.store_table.specs.Change.{with_change}
use Rattle.store_table.specs.declared.change.Change.{Change}
use Rattle.bson_store.specs.Draft.{ShowRows}
use Rattle.bson_store.proofs.OverLemmas.{then_ok}
use Rattle.bson_store.proofs.RowsLemmas.{shows_rewritten, shows_without}
use Rattle.bson_store.proofs.rows.change_rows.Goals as goal

pub returns-in-Rewrite : goal.returns-in-Rewrite
returns-in-Rewrite c docs shows =
    let same : to_z w64 (of_z w64 c.in-Rewrite.place) ≡ c.in-Rewrite.place = search rules in
    let now = c.set_body.new.rows.items in
    subst (λ (x : Change). OnOk c.set_body.result (ShowRows c.args.coll.now now (with_change x docs))) (sym c.in-Rewrite.is)
    (then_ok c.set_body.result (ShowRows c.args.coll.now now _) (λ made. shows_rewritten c.args.coll.now c.args.rows.now.items now docs shows c.in-Rewrite.place _ c.in-Rewrite.body.items _ same c.as_slice-in-Rewrite.ensures.value made) c.set_body.ensures)

pub returns-in-Remove : goal.returns-in-Remove
returns-in-Remove c docs shows =
    let same : to_z w64 (of_z w64 c.in-Remove.place) ≡ c.in-Remove.place = search rules in
    let now = c.drop_row.new.rows.items in
    subst (λ (x : Change). ShowRows c.args.coll.now now (with_change x docs)) (sym c.in-Remove.is)
    (shows_without c.args.coll.now c.args.rows.now.items now docs shows c.in-Remove.place _ same c.drop_row.ensures)

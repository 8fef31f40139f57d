use Rattle.std.proofs.Common.{◌≡◌, ◌∙◌, get_or, take, sym, ap, subst, rules}
use Rattle.store_table.specs.Change.{with_change, with_changes}
use Rattle.store_table.specs.declared.change.Change.{Change}
use Rattle.bson_store.specs.Draft.{ShowRows}
use Rattle.bson_store.proofs.RowsLemmas.{changed_more}
use Rattle.bson_store.proofs.draft.Draft.rows.Goals as goal

pub loop-change-preserved : goal.loop-change-preserved
loop-change-preserved c docs shows =
    let changes = c.as_slice-change-items.result.now in
    let i = c.loop-change.change-index in
    let before = with_changes (take i changes) docs in
    let one : get_or changes i c.change-item.result ≡ c.change-item.result = search rules in
    let more = changed_more changes i c.change-item.result docs c.loop-change-test.true ∙ ap (λ (x : Change). with_change x before) one in
    subst (ShowRows c.args.coll.now c.change_rows.new.rows.items) (sym more) (c.in_ok-change_rows.ensures before (c.loop-change.invariant docs shows))

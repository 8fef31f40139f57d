use Rattle.std.proofs.Common.{◌≡◌, ◌<◌, ◌∙◌, get_or, length, List, ap, w64, to_z, of_z, rules, arith}
use Rattle.std.proofs.lemmas.Int.{to_z-of_z}
use Rattle.store_table.specs.Moves.{parts_of_found}
use Rattle.store_table.specs.declared.row.Found.{Found}
use Rattle.bson_store.specs.Draft.{parts_of}
use Rattle.bson_store.proofs.RowsLemmas.{all_written, renewed, renewed_all, renews}
use Rattle.bson_store.proofs.rows.set_body.Goals as goal

pub loop-row-preserved : goal.loop-row-preserved
loop-row-preserved c =
    let place = to_z w64 (of_z w64 c.args.place) in
    let rows = c.loop-row.row-items in
    let inside : c.loop-row.row-index < length rows = omega (arith, c.loop-row-test.true, c.loop-row.auto.row-items) in
    let one : parts_of_found c.renew_row.new.row ≡ renewed place c.args.body.now (get_or rows c.loop-row.row-index c.row-item.result) = search rules in
    renews place c.args.body.now c.args.rows.now.items rows c.loop-row.row-index c.row-item.result c.renew_row.new.row inside one c.loop-row.invariant

pub returns : goal.returns
returns c =
    let rows = c.loop-row.row-items in
    let first = c.args.rows.now.items in
    let same : length rows ≡ length first = c.loop-row.auto.row-items ∙ ap (λ (l : List Found). length l) c.deref_mut-row-items.ensures.value in
    ap parts_of (all_written c.args.rows.now.len rows first c.args.rows.now.ok.0 same)
    ∙ renewed_all c.args.place c.args.body.now first rows c.loop-row.row-index (omega (arith, c.loop-row-test.false, c.loop-row.auto.row-items)) (rw (to_z-of_z w64 c.args.place c.ranges.place) at c.loop-row.invariant)

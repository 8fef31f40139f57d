use Rattle.std.proofs.Common.{◌<◌, length, [], refl, sym, arith}
use Rattle.store_documents.specs.Keys.{has_met, keys_of_rows}
use Rattle.store_documents.proofs.TakenLemmas.{come_again, come_more, key_at, met_before, not_met, rows_below}
use Rattle.store_documents.proofs.repeats.first_repeated.Goals as goal

pub loop-at-preserved : goal.loop-at-preserved
loop-at-preserved c =
    let rows = c.args.rows.now in
    let at = c.loop-at.at in
    let row = c.index-rows-at.result in
    let low : at < length rows = omega (arith, c.loop-at-test.true, c.loop-at.auto.at-end) in
    let is_new = c.in_ok-is_new.is_new in
    let e = rw c.as_slice.ensures.value at c.in_ok-is_new.ensures.new in
    let added = rw c.as_slice.ensures.value at (c.in_ok-is_new.ensures.added c.if-not-is_new.false) in
    come_more [] (keys_of_rows rows) c.loop-at.met c.meet.new.self at row.key.items c.loop-at.invariant (rows_below rows at low) (key_at rows at row low c.index-rows-at.is) refl
    (not_met is_new (has_met c.loop-at.met row.key.items) e c.if-not-is_new.false) added

pub returns-then-not-is_new : goal.returns-then-not-is_new
returns-then-not-is_new c =
    let rows = c.args.rows.now in
    let at = c.loop-at.at in
    let row = c.index-rows-at.result in
    let low : at < length rows = omega (arith, c.loop-at-test.true, c.loop-at.auto.at-end) in
    let e = rw c.as_slice.ensures.value at c.in_ok-is_new.ensures.new in
    sym (come_again [] (keys_of_rows rows) c.loop-at.met at row.key.items c.loop-at.invariant (rows_below rows at low) (key_at rows at row low c.index-rows-at.is)
    (met_before c.in_ok-is_new.is_new (has_met c.loop-at.met row.key.items) e c.if-not-is_new.true))

use Rattle.std.proofs.Common.{◌<◌, ◌++◌, ◌∙◌, drop, length, map, sym, ap, arith}
use Rattle.bson_model.specs.View.{view}
use Rattle.store_update.specs.Arrays.{without_each}
use Rattle.store_update.proofs.UpdateLemmas.{drop_none}
use Rattle.store_update.proofs.SetLemmas.{out_end, out_on}
use Rattle.store_update.proofs.sets.without_each.Goals as goal

pub loop-item-init : goal.loop-item-init
loop-item-init c =
    let ws = map view c.args.values.now in
    ap (λ xs. without_each ws (map view xs)) (sym (drop_none c.args.items.now))
    ∙ ap (λ ys. map view ys ++ without_each ws (map view (drop 0 c.args.items.now))) (sym c.new-left.ensures.items)

pub loop-item-preserved : goal.loop-item-preserved
loop-item-preserved c =
    let items = c.args.items.now in
    let ws = map view c.args.values.now in
    let low : c.loop-item.item-index < length items = omega (arith, c.loop-item-test.true, c.loop-item.auto.item-index-end) in
    out_on ws items c.loop-item.item-index c.item-item.result (without_each ws (map view items)) c.loop-item.left.items c.keep_one.new.left.items low c.item-item.is c.loop-item.invariant c.in_ok-keep_one.ensures

pub returns : goal.returns
returns c =
    let ws = map view c.args.values.now in
    out_end ws c.args.items.now c.loop-item.item-index (without_each ws (map view c.args.items.now)) c.loop-item.left.items (omega (arith, c.loop-item-test.false, c.loop-item.auto.item-index-end)) c.loop-item.invariant

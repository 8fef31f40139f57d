use Rattle.std.proofs.Common.{◌<◌, length, map, sym, ap, arith}
use Rattle.bson_model.specs.View.{view}
use Rattle.store_update.specs.Arrays.{has}
use Rattle.store_update.proofs.UpdateLemmas.{drop_none}
use Rattle.store_update.proofs.SetLemmas.{has_here, has_none, has_on}
use Rattle.store_update.proofs.sets.has.Goals as goal

pub loop-item-init : goal.loop-item-init
loop-item-init c = ap (λ xs. has (map view xs) (view c.args.value.now)) (sym (drop_none c.args.items.now))

pub loop-item-preserved : goal.loop-item-preserved
loop-item-preserved c =
    let items = c.args.items.now in
    let low : c.loop-item.item-index < length items = omega (arith, c.loop-item-test.true, c.loop-item.auto.item-index-end) in
    has_on items c.loop-item.item-index c.item-item.result (view c.args.value.now) (has (map view items) (view c.args.value.now)) low c.item-item.is c.loop-item.invariant c.compare_trees.result c.compare_trees.ensures c.is_eq.result c.is_eq.ensures c.if-is_eq.false

pub returns-then-is_eq : goal.returns-then-is_eq
returns-then-is_eq c =
    let items = c.args.items.now in
    let low : c.loop-item.item-index < length items = omega (arith, c.loop-item-test.true, c.loop-item.auto.item-index-end) in
    has_here items c.loop-item.item-index c.item-item.result (view c.args.value.now) (has (map view items) (view c.args.value.now)) low c.item-item.is c.loop-item.invariant c.compare_trees.result c.compare_trees.ensures c.is_eq.result c.is_eq.ensures c.if-is_eq.true

pub returns : goal.returns
returns c = has_none c.args.items.now c.loop-item.item-index (view c.args.value.now) (has (map view c.args.items.now) (view c.args.value.now)) (omega (arith, c.loop-item-test.false, c.loop-item.auto.item-index-end)) c.loop-item.invariant

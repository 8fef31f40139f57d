use Rattle.std.proofs.Common.{◌<◌, length, map, sym, ap, arith}
use Rattle.bson_model.specs.View.{view}
use Rattle.store_update.specs.Arrays.{with_each}
use Rattle.store_update.proofs.UpdateLemmas.{drop_none}
use Rattle.store_update.proofs.SetLemmas.{each_end, each_on}
use Rattle.store_update.proofs.sets.with_each.Goals as goal

pub loop-value-init : goal.loop-value-init
loop-value-init c = ap (λ xs. with_each (map view xs) (map view c.args.items.items)) (sym (drop_none c.args.new.now))

pub loop-value-preserved : goal.loop-value-preserved
loop-value-preserved c =
    let new = c.args.new.now in
    let low : c.loop-value.value-index < length new = omega (arith, c.loop-value-test.true, c.loop-value.auto.value-index-end) in
    each_on new c.loop-value.value-index c.value-item.result (with_each (map view new) (map view c.args.items.items)) c.loop-value.all.items c.include_one.new.items.items low c.value-item.is c.loop-value.invariant c.in_ok-include_one.ensures

pub returns : goal.returns
returns c = each_end c.args.new.now c.loop-value.value-index (with_each (map view c.args.new.now) (map view c.args.items.items)) c.loop-value.all.items (omega (arith, c.loop-value-test.false, c.loop-value.auto.value-index-end)) c.loop-value.invariant

use Rattle.std.proofs.Common.{◌≡◌, ◌<◌, ◌++◌, [], length, map, take, take_all, append-nil, sym, ap, ◌∙◌, arith}
use Rattle.bson_model.specs.View.{view}
use Rattle.store_update.proofs.UpdateLemmas.{copied_more, take_none}
use Rattle.store_update.proofs.arrays.copy_behind.Goals as goal

pub loop-item-init : goal.loop-item-init
loop-item-init c = sym (ap (λ xs. map view c.args.all.now.items ++ map view xs) (take_none c.args.items.now) ∙ append-nil (map view c.args.all.now.items))

pub loop-item-preserved : goal.loop-item-preserved
loop-item-preserved c =
    let items = c.args.items.now in
    let low : c.loop-item.item-index < length items = omega (arith, c.loop-item-test.true, c.loop-item.auto.item-index-end) in
    ap (map view) c.in_ok-push.ensures.items ∙ copied_more (map view c.args.all.now.items) items c.loop-item.all.items c.loop-item.item-index c.item-item.result c.in_ok-try_clone.field-0 low c.item-item.is c.in_ok-try_clone.ensures c.loop-item.invariant

pub returns : goal.returns
returns c =
    let items = c.args.items.now in
    let all : take c.loop-item.item-index items ≡ items = take_all c.loop-item.item-index items (omega (arith, c.loop-item-test.false, c.loop-item.auto.item-index-end)) in
    c.loop-item.invariant ∙ ap (λ xs. map view c.args.all.now.items ++ map view xs) all

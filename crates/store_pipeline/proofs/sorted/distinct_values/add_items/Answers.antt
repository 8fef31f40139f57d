use Rattle.std.proofs.Common.{◌∙◌, Some, ap, subst}
use Rattle.bson_raw.specs.View.{left_of}
use Rattle.bson_raw.specs.Walk.{steps_from}
use Rattle.store_pipeline.proofs.WalkLemmas.{left_end, left_fault, left_more, left_start}
use Rattle.store_pipeline.proofs.sorted.distinct_values.add_items.Goals as goal
use Rattle.store_pipeline.specs.Distinct.{itself}

pub loop-item-init : goal.loop-item-init
loop-item-init c =
    let from = ap left_of c.into_iter-item-iterator.ensures.into_iter_gives ∙ c.iter_elements-item-items.ensures.start in
    λ ms is back low. left_start itself _ ms c.args.values.now.items (left_of c.into_iter-item-iterator.result) is from back low

pub returns-in_default : goal.returns-in_default
returns-in_default c =
    let step = subst (λ i. steps_from (left_of c.loop-item.item-iterator) (Some i) (left_of c.next.new.self)) c.in_default.is c.in-Some.ensures.steps in
    λ ms is back low. absurd (left_fault itself ms c.args.values.now.items (left_of c.loop-item.item-iterator) (left_of c.next.new.self) c.loop-item.values.items c.in_default.field-0 step (c.loop-item.invariant ms is back low))

pub loop-item-preserved : goal.loop-item-preserved
loop-item-preserved c =
    let step = subst (λ i. steps_from (left_of c.loop-item.item-iterator) (Some i) (left_of c.next.new.self)) c.in-Ok.is c.in-Some.ensures.steps in
    λ ms is back low. left_more itself ms c.args.values.now.items (left_of c.loop-item.item-iterator) (left_of c.next.new.self) c.loop-item.values.items c.add_item.new.values.items c.in-Ok.element step (c.loop-item.invariant ms is back low) c.in_ok-add_item.ensures

pub returns : goal.returns
returns c = λ ms is back low. left_end itself ms c.args.values.now.items (left_of c.loop-item.item-iterator) (left_of c.next.new.self) c.loop-item.values.items c.in-None.ensures.steps (c.loop-item.invariant ms is back low)

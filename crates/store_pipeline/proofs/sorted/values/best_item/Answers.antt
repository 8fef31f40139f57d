use Rattle.std.proofs.Common.{◌∙◌, Some, ap, subst}
use Rattle.bson_base.specs.Value.{scalar, undefined}
use Rattle.bson_raw.specs.View.{left_of}
use Rattle.bson_raw.specs.Walk.{steps_from}
use Rattle.store_pipeline.proofs.SortedLedLemmas.{left_end, left_fault, left_more, left_start, none_inside, some_inside, shown_as, undefined_found}
use Rattle.store_pipeline.proofs.sorted.values.best_item.Goals as goal
use Rattle.store_pipeline.specs.Order.{itself}

pub loop-item-init : goal.loop-item-init
loop-item-init c =
    let from = ap left_of c.into_iter-item-iterator.ensures.into_iter_gives ∙ c.iter_elements-item-items.ensures.start in
    λ o s ms is back low. left_start itself c.args.descending _ ms o (left_of c.into_iter-item-iterator.result) c.args.met is from back low s

pub returns-then-has_no_items : goal.returns-then-has_no_items
returns-then-has_no_items c = λ o s ms is back low. shown_as c.args.descending c.better.result o _ _ (none_inside ms ((c.has_no_items.ensures ms is back low).0 c.if-has_no_items.true)) (c.better.ensures o s (scalar undefined) undefined_found)

pub returns-in_default : goal.returns-in_default
returns-in_default c =
    let step = subst (λ i. steps_from (left_of c.loop-item.item-iterator) (Some i) (left_of c.next.new.self)) c.in_default.is c.in-Some.ensures.steps in
    λ o s ms is back low. absurd (left_fault itself c.args.descending ms o (left_of c.loop-item.item-iterator) (left_of c.next.new.self) c.loop-item.so_far c.in_default.field-0 step (c.loop-item.invariant o s ms is back low))

pub loop-item-preserved : goal.loop-item-preserved
loop-item-preserved c =
    let step = subst (λ i. steps_from (left_of c.loop-item.item-iterator) (Some i) (left_of c.next.new.self)) c.in-Ok.is c.in-Some.ensures.steps in
    λ o s ms is back low. left_more itself c.args.descending ms o (left_of c.loop-item.item-iterator) (left_of c.next.new.self) c.loop-item.so_far c.with_item-so_far.result c.in-Ok.element step (c.loop-item.invariant o s ms is back low) c.with_item-so_far.ensures

pub returns : goal.returns
returns c = λ o s ms is back low.
    shown_as c.args.descending c.loop-item.so_far o _ _ (some_inside ms (λ e. let yes = (c.has_no_items.ensures ms is back low).1 e in let no' = c.if-has_no_items.false in absurd cc))
    (left_end itself c.args.descending ms o (left_of c.loop-item.item-iterator) (left_of c.next.new.self) c.loop-item.so_far c.in-None.ensures.steps (c.loop-item.invariant o s ms is back low))

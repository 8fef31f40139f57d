use Rattle.std.proofs.Common.{◌∙◌, List, [], Some, refl, sym, ap, subst}
use Rattle.bson_base.specs.Value.{array}
use Rattle.bson_model.proofs.ViewLemmas.{view-Array}
use Rattle.bson_model.specs.View.{items_of, view}
use Rattle.bson_model.specs.declared.bson.Bson.{Bson}
use Rattle.bson_raw.specs.View.{left_of}
use Rattle.bson_raw.specs.Walk.{steps_from}
use Rattle.store_pipeline.proofs.WalkLemmas.{AddsLeft, left_end, left_more, left_start}
use Rattle.store_question.specs.Filters.{path_of}
use Rattle.store_model.specs.Filter.{under_places}
use Rattle.store_pipeline.proofs.LedLemmas.{found_added, led_array, led_other, led_over, none_found, under_none, under_some}
use Rattle.store_pipeline.proofs.operand.+leading.Goals as goal
use Rattle.store_pipeline.specs.Operands.{led_to}
use Rattle.store_pipeline.specs.Taken.{through}
use Rattle.store_question.proofs.ValueLemmas.{value_found}

pub led_to-returns-in_default : goal.led_to-returns-in_default
led_to-returns-in_default t c = λ v f. led_over c.args.path.now v (view c.in_ok-tree_of.field-0) c.in_default.ensures.cases (c.in_ok-tree_of.ensures v f)

pub led_to-returns-in_ok-in_items-in-Some-items_in : goal.led_to-returns-in_ok-in_items-in-Some-items_in
led_to-returns-in_ok-in_items-in-Some-items_in t c = λ v f.
    let h = c.in-Some-items_in.ensures (Some v) (v, refl, f) in
    led_array c.args.path.now c.in-Some.key.now c.in-Some.rest.now c.as_str.result.now v c.in-Some.ensures.cases.0 c.as_str.ensures.value h.0 (view c.in_ok-in_items-in-Some-items_in.field-0) h.1
    (c.in_ok-in_items-in-Some-items_in.ensures (under_places 0 h.0) h.2 h.3 h.4)

pub led_to-returns-in-None : goal.led_to-returns-in-None
led_to-returns-in-None t c = λ v f.
    led_other c.args.path.now c.in-Some.key.now c.in-Some.rest.now c.as_str-in-None.result.now v c.in-Some.ensures.cases.0 c.as_str-in-None.ensures.value c.under.result (c.in-None.ensures (Some v) (v, refl, f)) (c.under.ensures v f)

pub under-returns-in-Some : goal.under-returns-in-Some
under-returns-in-Some t c = λ v f.
    let h = c.in-Some.ensures v f in
    under_some c.args.key.now (led_to (path_of c.args.rest.now)) v h.0 c.led_to.result h.1 (c.led_to.ensures h.0 h.2)

pub under-returns-in-None : goal.under-returns-in-None
under-returns-in-None t c = λ v f. under_none c.args.key.now (led_to (path_of c.args.rest.now)) v (c.in-None.ensures v f)

pub in_items-loop-item-init : goal.in_items-loop-item-init
in_items-loop-item-init t c =
    let from = ap left_of c.into_iter-item-iterator.ensures.into_iter_gives ∙ c.iter_elements-item-items.ensures.start in
    let on = through c.args.key.now (led_to (path_of c.args.rest.now)) in
    (λ ms is back low. subst (λ (l : List Bson). AddsLeft on ms [] (left_of c.into_iter-item-iterator.result) l) (sym c.new-found.ensures.items) (left_start on _ ms [] (left_of c.into_iter-item-iterator.result) is from back low), tt, tt)

pub in_items-loop-item-preserved : goal.in_items-loop-item-preserved
in_items-loop-item-preserved t c =
    let step = subst (λ i. steps_from (left_of c.loop-item.item-iterator) (Some i) (left_of c.next.new.self)) c.in-Ok.is c.in-Some.ensures.steps in
    (λ ms is back low. left_more (through c.args.key.now (led_to (path_of c.args.rest.now))) ms [] (left_of c.loop-item.item-iterator) (left_of c.next.new.self) c.loop-item.found.items c.through.new.found.items c.in-Ok.element step (c.loop-item.invariant.0 ms is back low) c.in_ok-through.ensures, tt, tt)

pub in_items-returns : goal.in_items-returns
in_items-returns t c = λ ms is back low.
    view-Array c.loop-item.found ∙ ap (λ vs. array (items_of vs)) (left_end (through c.args.key.now (led_to (path_of c.args.rest.now))) ms [] (left_of c.loop-item.item-iterator) (left_of c.next.new.self) c.loop-item.found.items c.in-None.ensures.steps (c.loop-item.invariant.0 ms is back low))

pub through-returns-in_default : goal.through-returns-in_default
through-returns-in_default t c = λ v w b low. let none = c.in_default.ensures v w b in absurd cc

pub through-returns-in_ok-push : goal.through-returns-in_ok-push
through-returns-in_ok-push t c = λ v w b low.
    let f = value_found c.in-Some.value v (c.in-Some.ensures v w b) b low in
    found_added c.args.found.now.items c.push.new.self.items c.in_ok-tree.field-0 c.in-Some-2.tree c.args.key.now (led_to (path_of c.args.rest.now)) c.args.element.now.frame.key.now v (c.in_ok-tree.ensures v f) c.in-Some-2.is c.in_ok-push.ensures.items

pub through-returns-in_default-2 : goal.through-returns-in_default-2
through-returns-in_default-2 t c = λ v w b low.
    let f = value_found c.in-Some.value v (c.in-Some.ensures v w b) b low in
    none_found c.args.found.now.items c.in_ok-tree.field-0 c.args.key.now (led_to (path_of c.args.rest.now)) c.args.element.now.frame.key.now v (c.in_ok-tree.ensures v f) c.in_default-2.is

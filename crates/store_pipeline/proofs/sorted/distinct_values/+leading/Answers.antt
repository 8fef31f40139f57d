use Rattle.std.proofs.Common.{◌∙◌, rules, Some, is_some, refl, sym, ap, subst}
use Rattle.bson_base.specs.Value.{look_up}
use Rattle.bson_raw.specs.View.{left_of}
use Rattle.bson_raw.specs.Walk.{steps_from}
use Rattle.store_pipeline.proofs.WalkLemmas.{adds_as, adds_none, adds_on, into_it, led_array, led_document, led_other, led_over, left_end, left_fault, left_more, left_start, not_into, through_here, through_not, under_none, under_some}
use Rattle.store_pipeline.specs.Counted.{Adds}
use Rattle.store_pipeline.proofs.sorted.distinct_values.+leading.Goals as goal
use Rattle.store_pipeline.specs.Distinct.{into_document, led_to, through}
use Rattle.store_question.specs.Filters.{path_of}
use Rattle.store_model.specs.Filter.{pairs, under_places}
use Rattle.store_question.proofs.AskLemmas.{is_document, no_document}
use Rattle.store_question.proofs.ValueLemmas.{value_found}

pub led_to-returns-in_default : goal.led_to-returns-in_default
led_to-returns-in_default t c = λ v f. adds_as c.add_opened.result c.args.values.now.items c.add_opened.new.values.items _ _ (led_over c.args.path.now v c.in_default.ensures.cases) (c.add_opened.ensures v f)

pub led_to-returns-then-is_some : goal.led_to-returns-then-is_some
led_to-returns-then-is_some t c = λ v f.
    let d = is_document c.args.value v c.is_some.result (c.is_some.ensures ∙ ap is_some c.as_document.ensures) c.if-is_some.true f.encodes in
    adds_as c.under.result c.args.values.now.items c.under.new.values.items _ _ (led_document c.args.path.now c.in-Some.key.now c.in-Some.rest.now c.as_str.result.now v c.in-Some.ensures.cases.0 c.as_str.ensures.value d.0 d.1) (c.under.ensures v f)

pub led_to-returns-in-Some-items_of : goal.led_to-returns-in-Some-items_of
led_to-returns-in-Some-items_of t c = λ v f.
    let h = c.in-Some-items_of.ensures v f in
    adds_as c.into_items.result c.args.values.now.items c.into_items.new.values.items _ _ (led_array c.args.path.now c.in-Some.key.now c.in-Some.rest.now c.as_str-in-Some-items_of.result.now v c.in-Some.ensures.cases.0 c.as_str-in-Some-items_of.ensures.value h.0 h.1) (c.into_items.ensures (under_places 0 h.0) h.2 h.3 h.4)

pub led_to-returns-in-None : goal.led_to-returns-in-None
led_to-returns-in-None t c = λ v f.
    let d = no_document c.args.value v c.is_some.result (c.is_some.ensures ∙ ap is_some c.as_document.ensures) c.if-is_some.false f.encodes in
    adds_none c.args.values.now.items _ (led_other c.args.path.now c.in-Some.key.now c.in-Some.rest.now _ v c.in-Some.ensures.cases.0 refl d (c.in-None.ensures v f))

pub under-returns-in-Some : goal.under-returns-in-Some
under-returns-in-Some t c = λ v f.
    let h = c.in-Some.ensures v f in
    adds_as c.led_to.result c.args.values.now.items c.led_to.new.values.items _ _ (under_some (led_to (path_of c.args.rest.now)) (look_up c.args.key.now (pairs v)) h.0 h.1) (c.led_to.ensures h.0 h.2)

pub under-returns-in-None : goal.under-returns-in-None
under-returns-in-None t c = λ v f. adds_none c.args.values.now.items _ (under_none (led_to (path_of c.args.rest.now)) (look_up c.args.key.now (pairs v)) (c.in-None.ensures v f))

pub into_items-loop-item-init : goal.into_items-loop-item-init
into_items-loop-item-init t c =
    let from = ap left_of c.into_iter-item-iterator.ensures.into_iter_gives ∙ c.iter_elements-item-items.ensures.start in
    (λ ms is back low. left_start (through c.args.key.now (led_to (path_of c.args.rest.now))) _ ms c.args.values.now.items (left_of c.into_iter-item-iterator.result) is from back low, tt, tt)

pub into_items-returns-in_default : goal.into_items-returns-in_default
into_items-returns-in_default t c =
    let step = subst (λ i. steps_from (left_of c.loop-item.item-iterator) (Some i) (left_of c.next.new.self)) c.in_default.is c.in-Some.ensures.steps in
    λ ms is back low. absurd (left_fault (through c.args.key.now (led_to (path_of c.args.rest.now))) ms c.args.values.now.items (left_of c.loop-item.item-iterator) (left_of c.next.new.self) c.loop-item.values.items c.in_default.field-0 step (c.loop-item.invariant.0 ms is back low))

pub into_items-loop-item-preserved : goal.into_items-loop-item-preserved
into_items-loop-item-preserved t c =
    let step = subst (λ i. steps_from (left_of c.loop-item.item-iterator) (Some i) (left_of c.next.new.self)) c.in-Ok.is c.in-Some.ensures.steps in
    (λ ms is back low. left_more (through c.args.key.now (led_to (path_of c.args.rest.now))) ms c.args.values.now.items (left_of c.loop-item.item-iterator) (left_of c.next.new.self) c.loop-item.values.items c.through.new.values.items c.in-Ok.element step (c.loop-item.invariant.0 ms is back low) c.in_ok-through.ensures, tt, tt)

pub into_items-returns : goal.into_items-returns
into_items-returns t c = λ ms is back low. left_end (through c.args.key.now (led_to (path_of c.args.rest.now))) ms c.args.values.now.items (left_of c.loop-item.item-iterator) (left_of c.next.new.self) c.loop-item.values.items c.in-None.ensures.steps (c.loop-item.invariant.0 ms is back low)

pub through-returns-in_default : goal.through-returns-in_default
through-returns-in_default t c = λ v w b low. let none = c.in_default.ensures v w b in absurd cc

pub through-returns-then-eq : goal.through-returns-then-eq
through-returns-then-eq t c = λ v w b low.
    let f = value_found c.in-Some.found v (c.in-Some.ensures v w b) b low in
    let on = led_to (path_of c.args.rest.now) in
    adds_as c.led_to.result c.args.values.now.items c.led_to.new.values.items _ _ (through_here c.args.key.now on c.args.element.now.frame.key.now v (search rules))
    (adds_on c.led_to.result c.args.values.now.items c.into_document.new.values.items c.led_to.new.values.items (into_document c.args.key.now on v) (on v) (c.in_ok-into_document.ensures v f) (c.led_to.ensures v f))

pub through-returns : goal.through-returns
through-returns t c = λ v w b low.
    let f = value_found c.in-Some.found v (c.in-Some.ensures v w b) b low in
    let on = led_to (path_of c.args.rest.now) in
    subst (λ vs. Adds c.args.values.now.items c.into_document.new.values.items vs) (sym (through_not c.args.key.now on c.args.element.now.frame.key.now v (search rules))) (c.in_ok-into_document.ensures v f)

pub into_document-returns-then-is_some : goal.into_document-returns-then-is_some
into_document-returns-then-is_some t c = λ v f.
    let d = is_document c.args.value v c.is_some.result (c.is_some.ensures ∙ ap is_some c.as_document.ensures) c.if-is_some.true f.encodes in
    adds_as c.under.result c.args.values.now.items c.under.new.values.items _ _ (into_it c.args.key.now (led_to (path_of c.args.rest.now)) v d.0 d.1) (c.under.ensures v f)

pub into_document-returns-else-is_some : goal.into_document-returns-else-is_some
into_document-returns-else-is_some t c = λ v f.
    let d = no_document c.args.value v c.is_some.result (c.is_some.ensures ∙ ap is_some c.as_document.ensures) c.if-is_some.false f.encodes in
    adds_none c.args.values.now.items _ (not_into c.args.key.now (led_to (path_of c.args.rest.now)) v d)

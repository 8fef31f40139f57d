use Rattle.std.proofs.Common.{◌∙◌, Some, is_some, true, false, refl, ap, subst}
use Rattle.bson_base.specs.Value.{scalar, null, look_up}
use Rattle.bson_raw.specs.View.{left_of}
use Rattle.bson_raw.specs.Walk.{steps_from}
use Rattle.store_question.specs.Filters.{path_of}
use Rattle.store_model.specs.Filter.{pairs, under_places}
use Rattle.store_question.proofs.AskLemmas.{is_document, no_document}
use Rattle.store_question.proofs.ValueLemmas.{value_found}
use Rattle.store_pipeline.proofs.SortedLedLemmas.{item_document, item_other, led_array, led_document, led_other, led_over, left_end, left_fault, left_more, left_start, null_found, place_none, place_some, shown_as, under_none, under_some}
use Rattle.store_pipeline.proofs.sorted.values.+leading.Goals as goal
use Rattle.store_pipeline.specs.Order.{each_of, into_item, led_to}

pub led_to-returns-in_default : goal.led_to-returns-in_default
led_to-returns-in_default t c = λ v f o s. shown_as c.args.descending c.at_end.result o _ _ (led_over c.args.opens c.args.path.now v c.in_default.ensures.cases) (c.at_end.ensures v f o s)

pub led_to-returns-then-is_some : goal.led_to-returns-then-is_some
led_to-returns-then-is_some t c = λ v f o s.
    let d = is_document c.args.value v c.is_some.result (c.is_some.ensures ∙ ap is_some c.as_document.ensures) c.if-is_some.true f.encodes in
    shown_as c.args.descending c.under.result o _ _ (led_document c.args.opens c.args.path.now c.in-Some.key.now c.in-Some.rest.now c.as_str.result.now v c.in-Some.ensures.cases.0 c.as_str.ensures.value d.0 d.1) (c.under.ensures v f o s)

pub led_to-returns-in-Some-items_in : goal.led_to-returns-in-Some-items_in
led_to-returns-in-Some-items_in t c = λ v f o s.
    let h = c.in-Some-items_in.ensures (Some v) (v, refl, f) in
    shown_as c.args.descending c.into_array.result o _ _ (led_array c.args.opens c.args.path.now c.in-Some.key.now c.in-Some.rest.now c.as_str-in-Some-items_in.result.now v c.in-Some.ensures.cases.0 c.as_str-in-Some-items_in.ensures.value h.0 h.1) (c.into_array.ensures v f o s (under_places 0 h.0) h.2 h.3 h.4)

pub led_to-returns-in-None : goal.led_to-returns-in-None
led_to-returns-in-None t c = λ v f o s.
    let d = no_document c.args.value v c.is_some.result (c.is_some.ensures ∙ ap is_some c.as_document.ensures) c.if-is_some.false f.encodes in
    shown_as c.args.descending c.better.result o _ _ (led_other c.args.opens c.args.path.now c.in-Some.key.now c.in-Some.rest.now _ v c.in-Some.ensures.cases.0 refl d (c.in-None.ensures (Some v) (v, refl, f))) (c.better.ensures o s (scalar null) null_found)

pub under-returns-in-Some : goal.under-returns-in-Some
under-returns-in-Some t c = λ v f o s.
    let h = c.in-Some.ensures v f in
    shown_as c.args.descending c.led_to.result o _ _ (under_some (led_to true (path_of c.args.rest.now)) (look_up c.args.key.now (pairs v)) h.0 h.1) (c.led_to.ensures h.0 h.2 o s)

pub under-returns-in-None : goal.under-returns-in-None
under-returns-in-None t c = λ v f o s. shown_as c.args.descending c.better.result o _ _ (under_none (led_to true (path_of c.args.rest.now)) (look_up c.args.key.now (pairs v)) (c.in-None.ensures v f)) (c.better.ensures o s (scalar null) null_found)

pub into_array-returns-in-Some : goal.into_array-returns-in-Some
into_array-returns-in-Some t c = λ v f o s ms is back low.
    let h = c.in-Some.ensures v f in
    shown_as c.args.descending c.led_to.result o _ _ (place_some (led_to false (path_of c.args.rest.now)) (each_of (into_item c.args.key.now (led_to true (path_of c.args.rest.now))) ms) (look_up c.args.key.now (pairs v)) h.0 h.1) (c.led_to.ensures h.0 h.2 o s)

pub into_array-returns-in-None : goal.into_array-returns-in-None
into_array-returns-in-None t c = λ v f o s ms is back low.
    shown_as c.args.descending c.into_items.result o _ _ (place_none (led_to false (path_of c.args.rest.now)) (each_of (into_item c.args.key.now (led_to true (path_of c.args.rest.now))) ms) (look_up c.args.key.now (pairs v)) (c.in-None.ensures v f)) (c.into_items.ensures o s ms is back low)

pub into_items-loop-item-init : goal.into_items-loop-item-init
into_items-loop-item-init t c =
    let from = ap left_of c.into_iter-item-iterator.ensures.into_iter_gives ∙ c.iter_elements-item-items.ensures.start in
    (λ o s ms is back low. left_start (into_item c.args.key.now (led_to true (path_of c.args.rest.now))) c.args.descending _ ms o (left_of c.into_iter-item-iterator.result) c.args.met is from back low s, tt, tt)

pub into_items-returns-in_default : goal.into_items-returns-in_default
into_items-returns-in_default t c =
    let step = subst (λ i. steps_from (left_of c.loop-item.item-iterator) (Some i) (left_of c.next.new.self)) c.in_default.is c.in-Some.ensures.steps in
    λ o s ms is back low. absurd (left_fault (into_item c.args.key.now (led_to true (path_of c.args.rest.now))) c.args.descending ms o (left_of c.loop-item.item-iterator) (left_of c.next.new.self) c.loop-item.so_far c.in_default.field-0 step (c.loop-item.invariant.0 o s ms is back low))

pub into_items-loop-item-preserved : goal.into_items-loop-item-preserved
into_items-loop-item-preserved t c =
    let step = subst (λ i. steps_from (left_of c.loop-item.item-iterator) (Some i) (left_of c.next.new.self)) c.in-Ok.is c.in-Some.ensures.steps in
    (λ o s ms is back low. left_more (into_item c.args.key.now (led_to true (path_of c.args.rest.now))) c.args.descending ms o (left_of c.loop-item.item-iterator) (left_of c.next.new.self) c.loop-item.so_far c.into_item-so_far.result c.in-Ok.element step (c.loop-item.invariant.0 o s ms is back low) c.into_item-so_far.ensures, tt, tt)

pub into_items-returns : goal.into_items-returns
into_items-returns t c = λ o s ms is back low. left_end (into_item c.args.key.now (led_to true (path_of c.args.rest.now))) c.args.descending ms o (left_of c.loop-item.item-iterator) (left_of c.next.new.self) c.loop-item.so_far c.in-None.ensures.steps (c.loop-item.invariant.0 o s ms is back low)

pub into_item-returns-in_default : goal.into_item-returns-in_default
into_item-returns-in_default t c = λ o s v w b low. let none = c.in_default.ensures v w b in absurd cc

pub into_item-returns-then-is_some : goal.into_item-returns-then-is_some
into_item-returns-then-is_some t c = λ o s v w b low.
    let f = value_found c.in-Some.found v (c.in-Some.ensures v w b) b low in
    let d = is_document c.in-Some.found v c.is_some.result (c.is_some.ensures ∙ ap is_some c.as_document.ensures) c.if-is_some.true f.encodes in
    shown_as c.args.descending c.under.result o _ _ (item_document c.args.key.now (led_to true (path_of c.args.rest.now)) v d.0 d.1) (c.under.ensures v f o s)

pub into_item-returns-else-is_some : goal.into_item-returns-else-is_some
into_item-returns-else-is_some t c = λ o s v w b low.
    let f = value_found c.in-Some.found v (c.in-Some.ensures v w b) b low in
    let d = no_document c.in-Some.found v c.is_some.result (c.is_some.ensures ∙ ap is_some c.as_document.ensures) c.if-is_some.false f.encodes in
    shown_as c.args.descending c.better.result o _ _ (item_other c.args.key.now (led_to true (path_of c.args.rest.now)) v d) (c.better.ensures o s (scalar null) null_found)

use Rattle.std.proofs.Common.{◌≡◌, map, length, Some, None, sym, ap, subst, ◌∙◌, arith, refl, max, ◌≤◌}
use Rattle.bson_base.specs.Value.{look_up, item, levels, items_levels}
use Rattle.bson_model.specs.View.{view, pairs_of, items_of, members_of}
use Rattle.bson_raw.specs.View.{left_of, parts_of}
use Rattle.bson_raw.specs.Walk.{steps_from}
use Rattle.bson_meaning.proofs.PairwiseLemmas.{once_here, stand_once}
use Rattle.bson_meaning.proofs.ViewLemmas.{compares_raw, members_none, members_many, members_other, members_more, members_end, members_wrong, items_longer, items_other, items_more, items_wrong, items_done, items_over, items_closed, number_length}
use Rattle.bson_meaning.proofs.views.+views.Goals as goal

pub same_element-returns-in-Ok : goal.same_element-returns-in-Ok
same_element-returns-in-Ok t c = compares_raw (parts_of c.args.element.now) c.in-Ok.raw (view c.args.value.now) c.same_as_raw.result c.payload_of_an_element.ensures c.in-Ok.ensures c.same_as_raw.ensures

pub same_members-returns-in_default : goal.same_members-returns-in_default
same_members-returns-in_default t c =
    let ns = members_of (pairs_of c.args.document.now) in
    let len = length (pairs_of c.args.document.now) in
    let step = subst (λ i. steps_from (left_of c.loop-item.item-iterator) (Some i) (left_of c.next.new.self)) c.in_default.is c.in-Some.ensures.steps in
    λ ms h d. (λ f. absurd cc, λ g. absurd (members_wrong (left_of c.loop-item.item-iterator) (left_of c.next.new.self) c.loop-item.left len ms ns c.in_default.field-0 step (c.loop-item.invariant.0 ms h d)))

pub same_members-returns-in_default-value_under : goal.same_members-returns-in_default-value_under
same_members-returns-in_default-value_under t c =
    let ns = members_of (pairs_of c.args.document.now) in
    let len = length (pairs_of c.args.document.now) in
    let step = subst (λ i. steps_from (left_of c.loop-item.item-iterator) (Some i) (left_of c.next.new.self)) c.in-Ok.is c.in-Some.ensures.steps in
    let none : look_up (parts_of c.in-Ok.element).key ns ≡ None = ap (λ k. look_up k ns) (sym c.key.ensures) ∙ c.in_default-value_under.ensures in
    λ ms h d. (λ f. absurd cc, λ g. absurd (members_none (left_of c.loop-item.item-iterator) (left_of c.next.new.self) c.loop-item.left len ms ns c.in-Ok.element step (c.loop-item.invariant.0 ms h d) none g.1))

pub same_members-returns-then-left-eq0 : goal.same_members-returns-then-left-eq0
same_members-returns-then-left-eq0 t c =
    let ns = members_of (pairs_of c.args.document.now) in
    let len = length (pairs_of c.args.document.now) in
    let step = subst (λ i. steps_from (left_of c.loop-item.item-iterator) (Some i) (left_of c.next.new.self)) c.in-Ok.is c.in-Some.ensures.steps in
    λ ms h d. (λ f. absurd cc, λ g. absurd (members_many (left_of c.loop-item.item-iterator) (left_of c.next.new.self) c.loop-item.left len ms ns c.in-Ok.element step (c.loop-item.invariant.0 ms h d) (once_here ms d) (sym (number_length (pairs_of c.args.document.now))) c.if-left-eq0.true g.1))

pub same_members-returns-then-not-same_element : goal.same_members-returns-then-not-same_element
same_members-returns-then-not-same_element t c =
    let ns = members_of (pairs_of c.args.document.now) in
    let len = length (pairs_of c.args.document.now) in
    let step = subst (λ i. steps_from (left_of c.loop-item.item-iterator) (Some i) (left_of c.next.new.self)) c.in-Ok.is c.in-Some.ensures.steps in
    let w = view c.in-Some-value_under.value.now in
    let found : look_up (parts_of c.in-Ok.element).key ns ≡ Some w = ap (λ k. look_up k ns) (sym c.key.ensures) ∙ c.in-Some-value_under.ensures.0 in
    let told = c.same_element.ensures in
    λ ms h d. (λ f. absurd cc, λ g. absurd (members_other (left_of c.loop-item.item-iterator) (left_of c.next.new.self) c.loop-item.left len ms ns c.in-Ok.element step (c.loop-item.invariant.0 ms h d) w c.same_element.result told found c.if-not-same_element.true g.1))

pub same_members-loop-item-preserved : goal.same_members-loop-item-preserved
same_members-loop-item-preserved t c =
    let ns = members_of (pairs_of c.args.document.now) in
    let len = length (pairs_of c.args.document.now) in
    let step = subst (λ i. steps_from (left_of c.loop-item.item-iterator) (Some i) (left_of c.next.new.self)) c.in-Ok.is c.in-Some.ensures.steps in
    let w = view c.in-Some-value_under.value.now in
    let found : look_up (parts_of c.in-Ok.element).key ns ≡ Some w = ap (λ k. look_up k ns) (sym c.key.ensures) ∙ c.in-Some-value_under.ensures.0 in
    let told = c.same_element.ensures in
    (λ ms h d. members_more (left_of c.loop-item.item-iterator) (left_of c.next.new.self) c.loop-item.left len ms ns c.in-Ok.element step (c.loop-item.invariant.0 ms h d) w c.same_element.result told found c.if-not-same_element.false (omega (arith, c.if-left-eq0.false)), tt, tt)

pub same_members-returns : goal.same_members-returns
same_members-returns t c =
    let ns = members_of (pairs_of c.args.document.now) in
    let len = length (pairs_of c.args.document.now) in
    λ ms h d. members_end (left_of c.loop-item.item-iterator) (left_of c.next.new.self) c.loop-item.left len ms ns _ c.in-None.ensures.steps (c.loop-item.invariant.0 ms h d) (once_here ms d) (stand_once (pairs_of c.args.document.now) c.distinct_keys_of_level.ensures) (sym (number_length (pairs_of c.args.document.now))) refl

pub same_elements-returns-in_default-item : goal.same_elements-returns-in_default-item
same_elements-returns-in_default-item t c =
    let target = items_of (map view c.args.items.now) in
    let others = items_of (map view c.loop-item.left.now) in
    let step = subst (λ i. steps_from (left_of c.loop-item.item-iterator) (Some i) (left_of c.next.new.self)) c.in_default-item.is c.in-Some.ensures.steps in
    λ vs h d. (λ f. absurd cc, λ g. absurd (items_wrong (left_of c.loop-item.item-iterator) (left_of c.next.new.self) vs target others c.in_default-item.field-0 step (c.loop-item.invariant.0 vs h d)))

pub same_elements-returns-in_default-split_first : goal.same_elements-returns-in_default-split_first
same_elements-returns-in_default-split_first t c =
    let target = items_of (map view c.args.items.now) in
    let others = items_of (map view c.loop-item.left.now) in
    let step = subst (λ i. steps_from (left_of c.loop-item.item-iterator) (Some i) (left_of c.next.new.self)) c.in-Ok-item.is c.in-Some.ensures.steps in
    λ vs h d. (λ f. absurd cc, λ g. absurd (items_longer (left_of c.loop-item.item-iterator) (left_of c.next.new.self) vs target others c.in-Ok-item.element step (c.loop-item.invariant.0 vs h d) (items_over c.loop-item.left.now c.in_default-split_first.ensures.cases) g))

pub same_elements-returns-then-not-same_element : goal.same_elements-returns-then-not-same_element
same_elements-returns-then-not-same_element t c =
    let target = items_of (map view c.args.items.now) in
    let others = items_of (map view c.loop-item.left.now) in
    let step = subst (λ i. steps_from (left_of c.loop-item.item-iterator) (Some i) (left_of c.next.new.self)) c.in-Ok-item.is c.in-Some.ensures.steps in
    let w = view c.in-Some-split_first.value.now in
    let ws = items_of (map view c.in-Some-split_first.others.now) in
    let split : others ≡ item w ws = ap (λ vs. items_of (map view vs)) c.in-Some-split_first.ensures.cases.0 in
    let told = c.same_element.ensures in
    λ vs h d. (λ f. absurd cc, λ g. absurd (items_other (left_of c.loop-item.item-iterator) (left_of c.next.new.self) vs target others c.in-Ok-item.element step (c.loop-item.invariant.0 vs h d) w ws c.same_element.result told split c.if-not-same_element.true g))

pub same_elements-loop-item-preserved : goal.same_elements-loop-item-preserved
same_elements-loop-item-preserved t c =
    let target = items_of (map view c.args.items.now) in
    let others = items_of (map view c.loop-item.left.now) in
    let step = subst (λ i. steps_from (left_of c.loop-item.item-iterator) (Some i) (left_of c.next.new.self)) c.in-Ok-item.is c.in-Some.ensures.steps in
    let w = view c.in-Some-split_first.value.now in
    let ws = items_of (map view c.in-Some-split_first.others.now) in
    let split : others ≡ item w ws = ap (λ vs. items_of (map view vs)) c.in-Some-split_first.ensures.cases.0 in
    let told = c.same_element.ensures in
    let low : max (levels w) (items_levels ws) ≤ items_levels target = subst (λ vs. items_levels vs ≤ items_levels target) split c.loop-item.invariant.1 in (
      λ vs h d. items_more (left_of c.loop-item.item-iterator) (left_of c.next.new.self) vs target others c.in-Ok-item.element step (c.loop-item.invariant.0 vs h d) w ws c.same_element.result told split c.if-not-same_element.false,
      omega (arith, low),
      tt,
      tt,
    )

pub same_elements-returns : goal.same_elements-returns
same_elements-returns t c =
    let target = items_of (map view c.args.items.now) in
    let others = items_of (map view c.loop-item.left.now) in
    λ vs h d. items_closed vs target c.loop-item.left.now c.is_empty.result (items_done (left_of c.loop-item.item-iterator) (left_of c.next.new.self) vs target others c.in-None.ensures.steps (c.loop-item.invariant.0 vs h d)) c.is_empty.ensures

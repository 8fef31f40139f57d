use Rattle.std.proofs.Common.{◌≡◌, ◌∙◌, List, ℕ, Some, true, false, sym, ap, subst, arith}
use Rattle.std.specs.Str.{bytes_eq}
use Rattle.bson_raw.specs.View.{bytes_of, left_of, parts_of}
use Rattle.bson_raw.specs.Walk.{steps_from}
use Rattle.store_question.proofs.LookUpLemmas.{start, start_room, here, here_met, passed, nowhere, all_met, no_fault, step_room}
use Rattle.store_question.proofs.paths.find.Goals as goal

pub loop-item-init : goal.loop-item-init
loop-item-init c =
    let bytes = bytes_of c.args.document in
    let from = ap left_of c.into_iter-item-iterator.ensures.into_iter_gives ∙ c.iter_elements-item-items.ensures.start in
    (λ ms is back. start c.args.key.now bytes ms _ is from back, omega (arith, start_room bytes _ from c.args.document.envelope.some))

pub returns-in_default-clause-found : goal.returns-in_default-clause-found
returns-in_default-clause-found c =
    let step = subst (λ i. steps_from (left_of c.loop-item.item-iterator) (Some i) (left_of c.next.new.self)) c.in_default.is c.in-Some.ensures.steps in
    λ ms is back. let p = c.loop-item.invariant.0 ms is back in absurd (no_fault (left_of c.loop-item.item-iterator) (left_of c.next.new.self) c.in_default.field-0 p.rest step p.ahead p.back)

pub returns-in_default-clause-met : goal.returns-in_default-clause-met
returns-in_default-clause-met c =
    let step = subst (λ i. steps_from (left_of c.loop-item.item-iterator) (Some i) (left_of c.next.new.self)) c.in_default.is c.in-Some.ensures.steps in
    λ ms is back. let p = c.loop-item.invariant.0 ms is back in absurd (no_fault (left_of c.loop-item.item-iterator) (left_of c.next.new.self) c.in_default.field-0 p.rest step p.ahead p.back)

pub returns-then-eq-clause-found : goal.returns-then-eq-clause-found
returns-then-eq-clause-found c =
    let step = subst (λ i. steps_from (left_of c.loop-item.item-iterator) (Some i) (left_of c.next.new.self)) c.in-Ok.is c.in-Some.ensures.steps in
    let test : bytes_eq c.args.key.now (parts_of c.in-Ok.element).key ≡ true = ap (λ (x : List ℕ). bytes_eq c.args.key.now x) (sym c.key.ensures) ∙ sym c.if-eq.ensures in
    λ ms is back. here c.args.key.now ms (left_of c.loop-item.item-iterator) (left_of c.next.new.self) c.loop-item.met c.in-Ok.element step (c.loop-item.invariant.0 ms is back) test

pub returns-then-eq-clause-met : goal.returns-then-eq-clause-met
returns-then-eq-clause-met c =
    let step = subst (λ i. steps_from (left_of c.loop-item.item-iterator) (Some i) (left_of c.next.new.self)) c.in-Ok.is c.in-Some.ensures.steps in
    let test : bytes_eq c.args.key.now (parts_of c.in-Ok.element).key ≡ true = ap (λ (x : List ℕ). bytes_eq c.args.key.now x) (sym c.key.ensures) ∙ sym c.if-eq.ensures in
    λ ms is back. here_met c.args.key.now ms (left_of c.loop-item.item-iterator) (left_of c.next.new.self) c.loop-item.met c.in-Ok.element step (c.loop-item.invariant.0 ms is back) test

pub returns-then-eq-clause-few : goal.returns-then-eq-clause-few
returns-then-eq-clause-few c =
    let step = subst (λ i. steps_from (left_of c.loop-item.item-iterator) (Some i) (left_of c.next.new.self)) c.in-Ok.is c.in-Some.ensures.steps in
    let room = step_room (left_of c.loop-item.item-iterator) (left_of c.next.new.self) c.in-Ok.element step in
    omega (arith, room, c.loop-item.invariant.1)

pub loop-item-preserved : goal.loop-item-preserved
loop-item-preserved c =
    let step = subst (λ i. steps_from (left_of c.loop-item.item-iterator) (Some i) (left_of c.next.new.self)) c.in-Ok.is c.in-Some.ensures.steps in
    let test : bytes_eq c.args.key.now (parts_of c.in-Ok.element).key ≡ false = ap (λ (x : List ℕ). bytes_eq c.args.key.now x) (sym c.key.ensures) ∙ sym c.if-eq.ensures in
    let room = step_room (left_of c.loop-item.item-iterator) (left_of c.next.new.self) c.in-Ok.element step in (
      λ ms is back. passed c.args.key.now ms (left_of c.loop-item.item-iterator) (left_of c.next.new.self) c.loop-item.met c.in-Ok.element step (c.loop-item.invariant.0 ms is back) test,
      omega (arith, room, c.loop-item.invariant.1),
    )

pub returns-clause-found : goal.returns-clause-found
returns-clause-found c = λ ms is back. nowhere c.args.key.now ms (left_of c.loop-item.item-iterator) (left_of c.next.new.self) c.loop-item.met c.in-None.ensures.steps (c.loop-item.invariant.0 ms is back)

pub returns-clause-met : goal.returns-clause-met
returns-clause-met c = λ ms is back. all_met c.args.key.now ms (left_of c.loop-item.item-iterator) (left_of c.next.new.self) c.loop-item.met c.in-None.ensures.steps (c.loop-item.invariant.0 ms is back)

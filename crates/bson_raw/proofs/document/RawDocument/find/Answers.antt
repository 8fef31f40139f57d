use Rattle.std.proofs.Common.{◌≡◌, ◌∙◌, List, ℕ, Option, true, false, refl, sym, ap, subst}
use Rattle.std.specs.Str.{bytes_eq}
use Rattle.bson_raw.specs.declared.raw_iter.RawIter.{RawIter}
use Rattle.bson_raw.specs.View.{left_of}
use Rattle.bson_raw.specs.Walk.{walk_items}
use Rattle.bson_raw.proofs.TurnLemmas.{IsLeft, turn, turn_end, found_element, found_fault, found_nothing, passed_element}
use Rattle.bson_raw.proofs.document.RawDocument.find.Goals as goal

pub loop-item-init : goal.loop-item-init
loop-item-init c = λ items l.
    let start = subst (λ (x : Option (List ℕ)). IsLeft x items) (sym c.iter_elements-item-items.ensures.start) l in
    (items, subst (λ (x : RawIter). IsLeft (left_of x) items) (sym c.into_iter-item-iterator.ensures.into_iter_gives) start, refl)

pub returns-then-eq : goal.returns-then-eq
returns-then-eq c = λ elements fault w.
    let items = walk_items elements fault in
    let inv = c.loop-item.invariant items (elements, fault, w, refl) in
    let step = rw c.in-Ok.is at c.in-Some.ensures.steps in
    let here = turn c.one_first_frame.ensures c.one_structural_fault.ensures (left_of c.loop-item.item-iterator) (left_of c.next.new.self) _ inv.0 step inv.1 in
    let key = c.args.key.now in
    let test : bytes_eq c.in-Ok.element.frame.key.now key ≡ true = ap (λ (x : List ℕ). bytes_eq x key) (sym c.key.ensures) ∙ sym c.if-eq.ensures in
    found_element key items inv.0 inv.2 c.in-Ok.element (left_of c.next.new.self) here test

pub loop-item-preserved : goal.loop-item-preserved
loop-item-preserved c = λ items l.
    let inv = c.loop-item.invariant items l in
    let step = rw c.in-Ok.is at c.in-Some.ensures.steps in
    let here = turn c.one_first_frame.ensures c.one_structural_fault.ensures (left_of c.loop-item.item-iterator) (left_of c.next.new.self) _ inv.0 step inv.1 in
    let key = c.args.key.now in
    let test : bytes_eq c.in-Ok.element.frame.key.now key ≡ false = ap (λ (x : List ℕ). bytes_eq x key) (sym c.key.ensures) ∙ sym c.if-eq.ensures in
    (here.more, here.others, passed_element key items inv.0 inv.2 c.in-Ok.element (left_of c.next.new.self) here test)

pub returns-in-Err : goal.returns-in-Err
returns-in-Err c = λ elements fault w.
    let items = walk_items elements fault in
    let inv = c.loop-item.invariant items (elements, fault, w, refl) in
    let step = rw c.in-Err.is at c.in-Some.ensures.steps in
    let here = turn c.one_first_frame.ensures c.one_structural_fault.ensures (left_of c.loop-item.item-iterator) (left_of c.next.new.self) _ inv.0 step inv.1 in
    found_fault c.args.key.now items inv.0 inv.2 c.in-Err.e (left_of c.next.new.self) here

pub returns : goal.returns
returns c = λ elements fault w.
    let items = walk_items elements fault in
    let inv = c.loop-item.invariant items (elements, fault, w, refl) in
    found_nothing c.args.key.now items inv.0 inv.2 (turn_end c.one_first_frame.ensures c.one_structural_fault.ensures (left_of c.loop-item.item-iterator) (left_of c.next.new.self) inv.0 c.in-None.ensures.steps inv.1)

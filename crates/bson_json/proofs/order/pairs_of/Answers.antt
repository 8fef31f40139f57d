use Rattle.std.proofs.Common.{◌∙◌, Some, ap, drop, subst}
use Rattle.bson_raw.specs.View.{bytes_of, left_of}
use Rattle.bson_raw.specs.Walk.{steps_from}
use Rattle.bson_json.specs.declared.style.Style.TheVariants.{Stored}
use Rattle.bson_json.proofs.OrderedLemmas.{taken_all, taken_more, taken_none}
use Rattle.bson_json.proofs.StraightLemmas.{member_left, members_none, members_onward, no_member, reserved_key}
use Rattle.bson_json.proofs.order.pairs_of.Goals as goal

pub loop-item-init : goal.loop-item-init
loop-item-init c =
    let elements = drop 4 (bytes_of c.args.document) in
    let left = left_of c.into_iter-item-iterator.result in
    let first = ap left_of c.into_iter-item-iterator.ensures.into_iter_gives ∙ c.iter_elements-item-items.ensures.start in
    (taken_none c.args.keys elements left c.new-pairs.result.items first c.new-pairs.ensures.items, members_none Stored c.args.keys elements left first)

pub loop-item-preserved : goal.loop-item-preserved
loop-item-preserved c =
    let l = c.loop-item in
    let elements = drop 4 (bytes_of c.args.document) in
    let s = left_of l.item-iterator in
    let t = left_of c.next.new.self in
    let x = c.in-Ok.element in
    let step = subst (λ i. steps_from s (Some i) t) c.in-Ok.is c.in-Some.ensures.steps in (
      taken_more c.args.keys elements s t x l.pairs.items c.push.new.self.items c.key-key.result c.in-Some-value_in.value step c.key-key.ensures (c.is_among.ensures.among c.if-not-is_among.false)
          c.in-Some-value_in.ensures.shown c.in_ok-push.ensures.items l.invariant.0,
      members_onward Stored c.args.keys elements s t x step l.invariant.1,
    )

pub returns-clause-shown : goal.returns-clause-shown
returns-clause-shown c = taken_all c.args.keys (drop 4 (bytes_of c.args.document)) (left_of c.loop-item.item-iterator) (left_of c.next.new.self) c.loop-item.pairs.items c.in-None.ensures.steps c.loop-item.invariant.0

pub returns-in_default-clause-seen : goal.returns-in_default-clause-seen
returns-in_default-clause-seen c = λ inner.
    let s = left_of c.loop-item.item-iterator in
    let t = left_of c.next.new.self in
    let step = subst (λ i. steps_from s (Some i) t) c.in_default.is c.in-Some.ensures.steps in
    no_member Stored c.args.keys (drop 4 (bytes_of c.args.document)) inner s t c.in_default.field-0 step c.loop-item.invariant.1

pub returns-then-not-is_among-clause-seen : goal.returns-then-not-is_among-clause-seen
returns-then-not-is_among-clause-seen c = λ inner.
    let s = left_of c.loop-item.item-iterator in
    let t = left_of c.next.new.self in
    let step = subst (λ i. steps_from s (Some i) t) c.in-Ok.is c.in-Some.ensures.steps in
    reserved_key Stored c.args.keys (drop 4 (bytes_of c.args.document)) s t c.in-Ok.element step c.loop-item.invariant.1 inner c.key-key.result.now c.key-key.ensures (c.is_among.ensures.other c.if-not-is_among.true)

pub returns-in_default-value_in-clause-seen : goal.returns-in_default-value_in-clause-seen
returns-in_default-value_in-clause-seen c = λ inner.
    let s = left_of c.loop-item.item-iterator in
    let t = left_of c.next.new.self in
    let step = subst (λ i. steps_from s (Some i) t) c.in-Ok.is c.in-Some.ensures.steps in
    member_left Stored c.args.keys (drop 4 (bytes_of c.args.document)) s t c.in-Ok.element step c.loop-item.invariant.1 inner (λ v kind spelled _. c.in_default-value_in.ensures.fault v kind spelled)

use Rattle.std.proofs.Common.{◌≤◌, ◌++◌, ◌∷◌, [], length, refl, sym, ap, ◌∙◌, subst, arith, append_assoc, append-nil, length-append}
use Rattle.bson_pairs.specs.Index.{places_of}
use Rattle.bson_pairs.specs.Keyed.{key_bytes}
use Rattle.bson_pairs.proofs.IndexLemmas.{order_length}
use Rattle.bson_pairs.proofs.GrowthLemmas.{tree-places}
use Rattle.bson_pairs.proofs.growing_keys.GrowingKeys.finish.Goals as goal

pub loop-place-init : goal.loop-place-init
loop-place-init c =
    let i = c.self.inside in
    record {
      all = ap (λ l. l ++ c.into_iter-place-iterator.result) c.self.invariant.2 ∙ c.into_iter-place-iterator.ensures.into_iter_gives ∙ c.values-place-items.ensures.rest ∙ tree-places i.texts.items i.places.entries c.self.invariant.0;
      room = let long = order_length i.texts.items (places_of (key_bytes i.texts.items)) refl c.self.invariant.1 in let room = c.self.invariant.3 in omega (arith, long, room);
    }

pub push_reserved-requires : goal.push_reserved-requires
push_reserved-requires c =
    let i = c.self.inside in
    let o = c.loop-place.order in
    let whole = ap length (ap (λ l. o.items ++ l) (sym c.in-Some.ensures.steps) ∙ c.loop-place.invariant.all) in
    let parts = length-append o.items (c.in-Some.place.now ∷ c.next.new.self) in
    let room = c.loop-place.invariant.room in
    let long = o.ok.0 in
    omega (arith, whole, parts, room, long)

pub loop-place-preserved : goal.loop-place-preserved
loop-place-preserved c =
    let i = c.self.inside in
    let o = c.loop-place.order in
    record {
      all = ap (λ l. l ++ c.next.new.self) c.push_reserved.ensures.items ∙ append_assoc o.items (c.in-Some.place.now ∷ []) c.next.new.self ∙ ap (λ l. o.items ++ l) (sym c.in-Some.ensures.steps) ∙ c.loop-place.invariant.all;
      room = subst (λ n. length (places_of (key_bytes i.texts.items)) ≤ n) (sym c.push_reserved.ensures.capacity) c.loop-place.invariant.room;
    }

pub from_parts-requires-clause-order : goal.from_parts-requires-clause-order
from_parts-requires-clause-order c =
    let o = c.loop-place.order in
    sym (append-nil o.items) ∙ ap (λ l. o.items ++ l) (sym c.in-None.ensures.steps.0) ∙ c.loop-place.invariant.all

use Rattle.std.proofs.Common.{◌<◌, length, sym, ap, ◌∙◌, rules}
use Rattle.std.proofs.lemmas.List.Elements.{All-head, All-same, All-rest}
use Rattle.bson_pairs.proofs.PickLemmas.{pick-next}
use Rattle.bson_pairs.proofs.ascending.AscendingIterator.next.Goals as goal

pub offset_bounds-self-inside-place-2 : goal.offset_bounds-self-inside-place-2
offset_bounds-self-inside-place-2 g c =
    let ks = c.self.inside.keys.now in
    let within = All-head (λ i. i < length ks) c.in_ok-place.field-0.now _ (All-same (λ i. i < length ks) _ _ (sym c.in_ok-place.ensures.steps) c.self.invariant.0) in
    let long = c.self.invariant.1 in
    search rules

pub invariant_of-self-2 : goal.invariant_of-self-2
invariant_of-self-2 g c = (All-rest (λ i. i < length c.self.inside.keys.now) c.in_ok-place.field-0.now _ _ c.in_ok-place.ensures.steps c.self.invariant.0, c.self.invariant.1)

pub returns-clause-steps : goal.returns-clause-steps
returns-clause-steps g c =
    let i = c.self.inside in
    sym c.self.view_is
    ∙ pick-next i.keys.now i.values.now c.in_ok-place.field-0.now _ _ c.index-self-place.result c.index-self-place-2.result c.self.invariant.0 c.self.invariant.1 c.in_ok-place.ensures.steps

pub returns-clause-goes : goal.returns-clause-goes
returns-clause-goes g c =
    let i = c.self.inside in
    let steps = sym c.self.view_is
    ∙ pick-next i.keys.now i.values.now c.in_ok-place.field-0.now _ _ c.index-self-place.result c.index-self-place-2.result c.self.invariant.0 c.self.invariant.1 c.in_ok-place.ensures.steps in
    let long = ap length steps in
    search (rules, long)

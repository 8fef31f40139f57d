use Rattle.std.proofs.Common.{◌≡◌, ◌∙◌, ◌-◌, List, [], ◌∷◌, ◌++◌, Vec, ℕ, take, sym, ap, subst, arith}
use Rattle.std.specs.declared.alloc.Global.{Global}
use Rattle.std.specs.List.{insert}
use Rattle.store_pipeline.proofs.SortLemmas.{held_behind, held_placed, one_less}
use Rattle.store_pipeline.proofs.sorted.first.TopN.take_body.Goals as goal
use Rattle.store_pipeline.specs.Bodies.{keys_of}
use Rattle.store_pipeline.specs.Held.{HoldsFirst}

pub returns-then-place-self-clause-holds : goal.returns-then-place-self-clause-holds
returns-then-place-self-clause-holds c = λ ds h d is.
    let self = c.args.self.now in
    held_behind (keys_of self.keys.now) self.limit ds self.bodies.items d c.place_for-place.result h c.args.body.now c.as_slice.result.now c.as_slice.ensures.value c.place_for-place.ensures.within c.place_for-place.ensures.place is c.if-place-self.true

pub returns-clause-place : goal.returns-clause-place
returns-clause-place c = (
  c.in_ok-copy.copy,
  c.in_ok-copy.ensures.items,
  c.in_ok-insert.ensures.items ∙ ap (λ (l : List (Vec ℕ Global)). insert l c.place_for-place.result c.in_ok-copy.copy) c.truncate.ensures.items,
)

pub returns-clause-holds : goal.returns-clause-holds
returns-clause-holds c = λ ds h d is.
    let self = c.args.self.now in
    let at = c.place_for-place.result in
    let n = self.limit in
    let below = c.if-place-self.false in
    let now : c.insert.new.self.items ≡ insert (take (n - 1) self.bodies.items) at c.in_ok-copy.copy = c.in_ok-insert.ensures.items ∙ ap (λ (l : List (Vec ℕ Global)). insert l at c.in_ok-copy.copy) c.truncate.ensures.items in
    subst (λ (l : List (Vec ℕ Global)). HoldsFirst (keys_of self.keys.now) n (ds ++ d ∷ []) l) (sym now)
    (held_placed (keys_of self.keys.now) n ds self.bodies.items d at h c.args.body.now c.as_slice.result.now c.as_slice.ensures.value c.place_for-place.ensures.within c.place_for-place.ensures.place is (n - 1) c.in_ok-copy.copy (one_less n at below) (omega (arith, below)) c.in_ok-copy.ensures.items)

use Rattle.std.proofs.Common.{◌+◌, ℕ, List, Vec, Bor, take, refl, subst, sym, arith}
use Rattle.std.specs.declared.alloc.Global.{Global}
use Rattle.bson_base.specs.Value.{Members, no_members}
use Rattle.store_pipeline.specs.Bodies.{AreBodies, IsBody}
use Rattle.store_pipeline.proofs.EachLemmas.{made_all, made_more}
use Rattle.store_pipeline.proofs.sorting.copies_of.Goals as goal

abbrev Lent : Bor (List ℕ) → Members → Type 0
Lent b d = IsBody b.now d

abbrev Has : Vec ℕ Global → Members → Type 0
Has b d = IsBody b.items d

pub loop-body-preserved : goal.loop-body-preserved
loop-body-preserved c = λ ds are.
    let copy = c.in_ok-from_slice.field-0 in
    subst (λ l. AreBodies l (take (c.loop-body.body-index + 1) ds)) (sym {A = List (Vec ℕ Global)} c.in_ok-push.ensures.items)
    (made_more Lent Has c.args.bodies.now ds are c.loop-body.body-index _ _ no_members c.loop-body.copies.items copy (omega (arith, c.loop-body-test.true, c.loop-body.auto.body-index-end)) refl
    (λ e is. subst (λ (x : List ℕ). IsBody x e) (sym c.in_ok-from_slice.ensures.items) is) (c.loop-body.invariant ds are))

pub returns : goal.returns
returns c = λ ds are. made_all Lent Has c.args.bodies.now ds are c.loop-body.body-index c.loop-body.copies.items (omega (arith, c.loop-body-test.false, c.loop-body.auto.body-index-end)) (c.loop-body.invariant ds are)

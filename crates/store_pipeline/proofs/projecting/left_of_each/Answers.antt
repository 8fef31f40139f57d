use Rattle.std.proofs.Common.{◌+◌, ℕ, List, Vec, take, subst, sym, arith}
use Rattle.std.specs.List.{AllZip}
use Rattle.std.specs.declared.alloc.Global.{Global}
use Rattle.bson_base.specs.Value.{Members, no_members}
use Rattle.store_pipeline.specs.Views.{left_of}
use Rattle.store_pipeline.specs.declared.sorted.fields.Fields.{Fields}
use Rattle.store_pipeline.specs.Bodies.{IsBody, OfBody}
use Rattle.store_pipeline.proofs.EachLemmas.{made_all, made_more, zip_mapped}
use Rattle.store_pipeline.proofs.projecting.left_of_each.Goals as goal

abbrev Has : Vec ℕ Global → Members → Type 0
Has b d = IsBody b.items d

abbrev Left : Fields → Vec ℕ Global → Members → Type 0
Left f b d = IsBody b.items (left_of f d)

pub loop-body-preserved : goal.loop-body-preserved
loop-body-preserved c = λ ds are.
    let f = c.args.fields.now in
    let left = c.in_ok-left_of_body.field-0 in
    subst (λ l. AllZip (Left f) l (take (c.loop-body.body-index + 1) ds)) (sym {A = List (Vec ℕ Global)} c.in_ok-push.ensures.items)
    (made_more Has (Left f) c.args.bodies.now ds are c.loop-body.body-index c.body-item.result c.body-item.result no_members c.loop-body.left.items left (omega (arith, c.loop-body-test.true, c.loop-body.auto.body-index-end)) c.body-item.is
    (subst (λ (x : List ℕ). OfBody x (λ d. IsBody left.items (left_of f d))) c.as_slice.ensures.value c.in_ok-left_of_body.ensures) (c.loop-body.invariant ds are))

pub returns : goal.returns
returns c = λ ds are.
    let f = c.args.fields.now in
    zip_mapped Has (left_of f) c.loop-body.left.items ds
    (made_all Has (Left f) c.args.bodies.now ds are c.loop-body.body-index c.loop-body.left.items (omega (arith, c.loop-body-test.false, c.loop-body.auto.body-index-end)) (c.loop-body.invariant ds are))

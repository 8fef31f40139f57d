use Rattle.std.proofs.Common.{Vec, take_all, ◌+◌, ℕ, List, get_or, take, sym, subst, arith}
use Rattle.std.proofs.lemmas.Result.{err_from_is_err_and}
use Rattle.std.specs.List.{flat_map}
use Rattle.std.specs.declared.alloc.Global.{Global}
use Rattle.bson_base.specs.Value.{no_members}
use Rattle.store_pipeline.specs.Bodies.{IsBody}
use Rattle.store_pipeline.specs.Unwound.{unwound}
use Rattle.store_pipeline.proofs.CountLemmas.{bodies_long}
use Rattle.store_pipeline.proofs.WrittenLemmas.{AreWritten, body_at, made_of, pieces_more, pieces_stop}
use Rattle.store_pipeline.proofs.unwinding.unwind.Goals as goal

pub loop-body-preserved : goal.loop-body-preserved
loop-body-preserved c = λ ds are.
    let i = c.loop-body.body-index in
    let g = unwound c.args.unwinding.now in
    let here = body_at c.args.bodies.now ds i c.body-item.result are (omega (arith, c.loop-body-test.true, c.loop-body.auto.body-index-end)) c.body-item.is in
    let one = c.in_ok-more.ensures (get_or ds i no_members) (subst (λ (x : List ℕ). IsBody x (get_or ds i no_members)) (sym c.as_slice.ensures.value) here.1) in
    subst (AreWritten (flat_map g (take (i + 1) ds))) (sym {A = List (Vec ℕ Global)} c.in_ok-append.ensures.items)
    (pieces_more g ds i here.0 c.loop-body.made.items c.in_ok-more.more.items (one.0.0, one.1) (c.loop-body.invariant ds are))

pub returns-in_err-more : goal.returns-in_err-more
returns-in_err-more c = λ ds are.
    let i = c.loop-body.body-index in
    let g = unwound c.args.unwinding.now in
    let here = body_at c.args.bodies.now ds i c.body-item.result are (omega (arith, c.loop-body-test.true, c.loop-body.auto.body-index-end)) c.body-item.is in
    let p = err_from_is_err_and c.from_residual.result c.from_residual.ensures.1 in
    rw (p.1, p.2) (pieces_stop g ds i here.0 c.in_err-more.field-0.0 (c.in_err-more.ensures (get_or ds i no_members) (subst (λ (x : List ℕ). IsBody x (get_or ds i no_members)) (sym c.as_slice.ensures.value) here.1)) (c.loop-body.invariant ds are).0)

pub returns : goal.returns
returns c = λ ds are.
    let i = c.loop-body.body-index in
    let g = unwound c.args.unwinding.now in
    made_of (flat_map g ds) c.loop-body.made
    (subst (λ l. AreWritten (flat_map g l) c.loop-body.made.items) (take_all i ds (let long = bodies_long c.args.bodies.now ds are in omega (arith, long, c.loop-body-test.false, c.loop-body.auto.body-index-end))) (c.loop-body.invariant ds are))

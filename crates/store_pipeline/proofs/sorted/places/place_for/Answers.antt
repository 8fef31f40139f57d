use Rattle.std.proofs.Common.{refl, arith}
use Rattle.store_pipeline.proofs.SearchLemmas.{placed_first, placed_last, search_down, search_end, search_start, search_up}
use Rattle.store_pipeline.proofs.sorted.places.place_for.Goals as goal
use Rattle.store_pipeline.specs.Bodies.{keys_of}

pub loop-low-init : goal.loop-low-init
loop-low-init c = (omega arith, omega arith, search_start (keys_of c.args.keys.now) c.args.bodies.now c.args.body.now _ refl)

pub loop-low-preserved-then-is_before : goal.loop-low-preserved-then-is_before
loop-low-preserved-then-is_before c =
    let below = c.loop-low.invariant.1 in
    let more = c.loop-low-test.true in (
      omega arith,
      omega (arith, below, more),
      search_down (keys_of c.args.keys.now) c.args.bodies.now c.args.body.now _ c.index-bodies-middle.result c.as_slice.result.now c.is_before.result (omega (arith, below, more))
          c.index-bodies-middle.is c.as_slice.ensures.value c.is_before.ensures c.loop-low.low c.loop-low.high c.if-is_before.true c.loop-low.invariant.2,
    )

pub loop-low-preserved : goal.loop-low-preserved
loop-low-preserved c =
    let below = c.loop-low.invariant.1 in
    let more = c.loop-low-test.true in (
      omega (arith, more),
      below,
      search_up (keys_of c.args.keys.now) c.args.bodies.now c.args.body.now _ c.index-bodies-middle.result c.as_slice.result.now c.is_before.result (omega (arith, below, more))
          c.index-bodies-middle.is c.as_slice.ensures.value c.is_before.ensures c.loop-low.low c.loop-low.high c.if-is_before.false c.loop-low.invariant.2,
    )

pub returns-clause-place : goal.returns-clause-place
returns-clause-place c = search_end (keys_of c.args.keys.now) c.args.bodies.now c.args.body.now _ _ c.loop-low-test.false c.loop-low.invariant.2

pub returns-then-goes_last-clause-place : goal.returns-then-goes_last-clause-place
returns-then-goes_last-clause-place c = placed_last (keys_of c.args.keys.now) c.args.bodies.now c.args.body.now _ refl (λ es are d is. c.goes_last.ensures es are d is c.if-goes_last.true)

pub returns-then-goes_first-clause-place : goal.returns-then-goes_first-clause-place
returns-then-goes_first-clause-place c = placed_first (keys_of c.args.keys.now) c.args.bodies.now c.args.body.now _ refl (λ es are d is. c.goes_first.ensures es are d is c.if-goes_first.true)

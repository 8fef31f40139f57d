use Rattle.std.proofs.Common.{◌≡◌, ◌∙◌, ap, ℕ, suc, map, take, drop, Vec, Global, arith}
use Rattle.std.proofs.lemmas.Result.{err_from_is_err_and}
use Rattle.bson_base.specs.Value.{Members}
use Rattle.bson_bytes.specs.Encode.{encode}
use Rattle.store_model.specs.State.{IsKept}
use Rattle.fallowtime_commands.specs.Printing.{IsPrinted}
use Rattle.fallowtime_commands.proofs.PrintLemmas.{between, more}
use Rattle.fallowtime_commands.proofs.printing.print_bodies.Goals as goal

pub returns-in_err-print_body : goal.returns-in_err-print_body
returns-in_err-print_body g c =
    let tally = g.O.Sink.tally in
    let i = c.loop-body.body-index in
    let bodies = c.args.bodies.now in
    let so_far = c.loop-body.invariant in
    let p = err_from_is_err_and c.from_residual.result c.from_residual.ensures.1 in
    rw (p.1, p.2) (
      map (λ (v : Vec ℕ Global). v.items) (take i bodies),
      c.as_slice.result.now,
      map (λ (v : Vec ℕ Global). v.items) (drop (suc i) bodies),
      so_far.0,
      tally c.loop-body.output,
      between (λ (v : Vec ℕ Global). v.items) (λ part body. (d : Members) → IsKept d → body ≡ encode d → IsPrinted c.args.form d part) bodies i _ c.as_slice.result.now (let h = c.loop-body-test.true in omega arith) (c.as_slice.ensures.value ∙ ap (λ (v : Vec ℕ Global). v.items) c.body-item.is),
      so_far.1,
      so_far.2,
      c.in_err-print_body.ensures,
    )

pub loop-body-preserved : goal.loop-body-preserved
loop-body-preserved g c =
    let tally = g.O.Sink.tally in
    let printed = c.in_ok-print_body.ensures in
    more (λ (v : Vec ℕ Global). v.items) (λ part body. (d : Members) → IsKept d → body ≡ encode d → IsPrinted c.args.form d part) c.args.bodies.now c.loop-body.body-index _ c.as_slice.result.now printed.0 (tally c.args.output.now) (tally c.loop-body.output) (tally c.print_body.new.output)
    (let h = c.loop-body-test.true in omega arith) (c.as_slice.ensures.value ∙ ap (λ (v : Vec ℕ Global). v.items) c.body-item.is) c.loop-body.invariant printed.1 printed.2

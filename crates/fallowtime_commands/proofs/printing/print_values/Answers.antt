use Rattle.std.proofs.Common.{suc, take, drop, arith}
use Rattle.std.proofs.lemmas.Result.{err_from_is_err_and}
use Rattle.fallowtime_commands.proofs.PrintLemmas.{more_values, parted_by}
use Rattle.fallowtime_commands.proofs.printing.print_values.Goals as goal

pub returns-in_err-print_value : goal.returns-in_err-print_value
returns-in_err-print_value g c =
    let p = err_from_is_err_and c.from_residual.result c.from_residual.ensures.1 in
    let i = c.loop-counted.counted-index in
    let values = c.args.values.now in
    let so_far = c.loop-counted.invariant in
    rw (p.1, p.2) (
      take i values,
      c.counted-item.result,
      drop (suc i) values,
      so_far.0,
      g.O.Sink.tally c.loop-counted.output,
      parted_by values i _ (let h = c.loop-counted-test.true in omega arith) c.counted-item.result c.counted-item.is,
      so_far.1,
      so_far.2,
      c.in_err-print_value.ensures,
    )

pub loop-counted-preserved : goal.loop-counted-preserved
loop-counted-preserved g c =
    let tally = g.O.Sink.tally in
    more_values c.args.mode c.args.counts c.args.values.now c.loop-counted.counted-index _ c.counted-item.result (tally c.args.output.now) (tally c.loop-counted.output) (tally c.print_value.new.output)
    (let h = c.loop-counted-test.true in omega arith) c.counted-item.is c.loop-counted.invariant c.in_ok-print_value.ensures

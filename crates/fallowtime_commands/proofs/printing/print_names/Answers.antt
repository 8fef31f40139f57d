use Rattle.std.proofs.Common.{◌∙◌, ap, suc, map, take, drop, arith}
use Rattle.std.proofs.lemmas.Result.{err_from_is_err_and}
use Rattle.std.specs.Prelude.{string_bytes}
use Rattle.fallowtime_commands.specs.Printing.{IsNameLine}
use Rattle.fallowtime_commands.proofs.PrintLemmas.{between, more}
use Rattle.fallowtime_commands.proofs.printing.print_names.Goals as goal

pub returns-in_err-print_name : goal.returns-in_err-print_name
returns-in_err-print_name g c =
    let tally = g.O.Sink.tally in
    let i = c.loop-name.name-index in
    let names = c.args.names.now in
    let so_far = c.loop-name.invariant in
    let p = err_from_is_err_and c.from_residual.result c.from_residual.ensures.1 in
    rw (p.1, p.2) (
      map (λ x. string_bytes x) (take i names),
      c.as_str.result.now,
      map (λ x. string_bytes x) (drop (suc i) names),
      so_far.0,
      tally c.loop-name.output,
      between (λ x. string_bytes x) IsNameLine names i _ c.as_str.result.now (let h = c.loop-name-test.true in omega arith) (c.as_str.ensures.value ∙ ap (λ x. string_bytes x) c.name-item.is),
      so_far.1,
      so_far.2,
      c.in_err-print_name.ensures,
    )

pub loop-name-preserved : goal.loop-name-preserved
loop-name-preserved g c =
    let tally = g.O.Sink.tally in
    let printed = c.in_ok-print_name.ensures in
    more (λ x. string_bytes x) IsNameLine c.args.names.now c.loop-name.name-index _ c.as_str.result.now printed.0 (tally c.args.output.now) (tally c.loop-name.output) (tally c.print_name.new.output) (let h = c.loop-name-test.true in omega arith) (c.as_str.ensures.value ∙ ap (λ x. string_bytes x) c.name-item.is) c.loop-name.invariant printed.1 printed.2

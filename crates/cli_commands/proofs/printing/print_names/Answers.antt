use Rattle.std.proofs.Common.{◌∙◌, ap, arith}
use Rattle.std.specs.Prelude.{string_bytes}
use Rattle.cli_commands.specs.Lines.{line}
use Rattle.cli_commands.proofs.PrintLemmas.{next_passed}
use Rattle.cli_commands.proofs.printing.print_names.Goals as goal

pub loop-name-preserved : goal.loop-name-preserved
loop-name-preserved g c =
    let tally = g.O.Sink.tally in
    next_passed (λ x. string_bytes x) line c.args.names.now c.loop-name.name-index _ c.as_str.result.now (tally c.args.output.now) (tally c.loop-name.output) (tally c.write_line.new.sink)
    (let h = c.loop-name-test.true in omega arith) (c.as_str.ensures.value ∙ ap (λ x. string_bytes x) c.name-item.is) c.loop-name.invariant c.in_ok-write_line.ensures.counts c.in_ok-write_line.ensures.ok

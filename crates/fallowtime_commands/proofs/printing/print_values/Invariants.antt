use Rattle.fallowtime_commands.proofs.PrintLemmas.{ValuesBefore}
use Rattle.fallowtime_commands.proofs.printing.print_values.Given as goal

abbrev pub invariant-loop-counted : goal.invariant-loop-counted
invariant-loop-counted g l = ValuesBefore l.mode l.counts l.values l.counted-index (g.O.Sink.tally l.fn.output) (g.O.Sink.tally l.output)

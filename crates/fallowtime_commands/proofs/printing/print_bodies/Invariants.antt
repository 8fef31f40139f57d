use Rattle.bson_store.specs.Export.{bytes_of_each}
use Rattle.std.proofs.Common.{take}
use Rattle.cli_convert.specs.Parts.{Passed}
use Rattle.std.specs.Prelude.{ℕ, List}
use Rattle.fallowtime_commands.specs.Printing.{ArePrinted}
use Rattle.fallowtime_commands.proofs.printing.print_bodies.Given as goal

abbrev pub invariant-loop-body : goal.invariant-loop-body
invariant-loop-body g l = (out : List ℕ) × Passed (g.O.Sink.tally l.fn.output) (g.O.Sink.tally l.output) out × ArePrinted l.form out (bytes_of_each (take l.body-index l.bodies))

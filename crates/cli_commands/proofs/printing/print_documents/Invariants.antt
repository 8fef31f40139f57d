use Rattle.std.specs.Prelude.{ℕ, List}
use Rattle.std.proofs.Common.{take}
use Rattle.bson_store.specs.Export.{bytes_of_each}
use Rattle.cli_commands.proofs.PrintLemmas.{FirstPassed}
use Rattle.cli_commands.proofs.printing.print_documents.Given as goal

-- the first ones were written, and no write has failed
abbrev pub invariant-loop-document : goal.invariant-loop-document
invariant-loop-document g l = FirstPassed (λ (b : List ℕ). b) (bytes_of_each (take l.document-index l.documents)) (g.O.Sink.tally l.fn.output) (g.O.Sink.tally l.output)

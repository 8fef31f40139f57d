use Rattle.std.proofs.Common.{◌∙◌, ap, ℕ, List, Vec, Global, arith}
use Rattle.cli_commands.proofs.PrintLemmas.{next_passed}
use Rattle.cli_commands.proofs.printing.print_documents.Goals as goal

pub loop-document-preserved : goal.loop-document-preserved
loop-document-preserved g c =
    let tally = g.O.Sink.tally in
    let bytes = λ (v : Vec ℕ Global). v.items in
    next_passed bytes (λ (b : List ℕ). b) c.args.documents.now c.loop-document.document-index _ c.as_slice.result.now (tally c.args.output.now) (tally c.loop-document.output) (tally c.write_all.new.sink)
    (let h = c.loop-document-test.true in omega arith) (c.as_slice.ensures.value ∙ ap bytes c.document-item.is) c.loop-document.invariant c.in_ok-write_all.ensures.counts c.in_ok-write_all.ensures.ok

use Rattle.std.proofs.Common.{List, ℕ, subst}
use Rattle.std.specs.Io.KnownBytes.{Appends}
use Rattle.fallowtime_commands.proofs.PrintLemmas.{of_update}
use Rattle.fallowtime_commands.proofs.printing.print_update.Goals as goal

pub returns-in-Ok : goal.returns-in-Ok
returns-in-Ok g c =
    let tally = g.O.Sink.tally in (
      c.in-Ok.ensures.counts,
      subst (λ (text : List ℕ). Appends (tally c.args.output.now).taken (tally c.write_parts.new.output).taken text)
          (of_update c.args.matched c.args.changed c.format.result.now c.format-2.result.now c.format.ensures.text c.format-2.ensures.text) c.in-Ok.ensures.ok,
    )

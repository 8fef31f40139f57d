use Rattle.std.proofs.Common.{List, ℕ, subst}
use Rattle.std.specs.Io.KnownBytes.{Appends}
use Rattle.fallowtime_commands.proofs.PrintLemmas.{of_upsert}
use Rattle.fallowtime_commands.proofs.printing.print_upsert.Goals as goal

pub returns-in-Ok : goal.returns-in-Ok
returns-in-Ok g c =
    let tally = g.O.Sink.tally in (
      c.in-Ok.ensures.counts,
      subst (λ (text : List ℕ). Appends (tally c.args.output.now).taken (tally c.write_parts.new.output).taken text) (of_upsert c.args.id.now) c.in-Ok.ensures.ok,
    )

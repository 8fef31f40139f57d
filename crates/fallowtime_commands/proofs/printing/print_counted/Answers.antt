use Rattle.std.proofs.Common.{List, ℕ, subst}
use Rattle.std.specs.Io.KnownBytes.{Appends}
use Rattle.fallowtime_commands.proofs.PrintLemmas.{of_counted}
use Rattle.fallowtime_commands.proofs.printing.print_counted.Goals as goal

pub returns-in-Ok : goal.returns-in-Ok
returns-in-Ok g c =
    let tally = g.O.Sink.tally in (
      c.in-Ok.ensures.counts,
      subst (λ (text : List ℕ). Appends (tally c.args.output.now).taken (tally c.write_parts.new.output).taken text) (of_counted c.args.text.now c.args.digits.now) c.in-Ok.ensures.ok,
    )

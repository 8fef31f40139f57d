use Rattle.std.specs.Prelude.{string_bytes}
use Rattle.fallowtime_commands.proofs.PrintLemmas.{without_text}
use Rattle.fallowtime_commands.proofs.printing.print_text.Goals as goal

pub returns-in-Err : goal.returns-in-Err
returns-in-Err g c d kept is = without_text c.args.mode d (string_bytes c.text_of_body.new.text) c.in-Err.fault (g.O.Sink.tally c.args.output.now) c.unprinted.result (c.in-Err.ensures d kept is) c.unprinted.ensures.error c.unprinted.ensures.key

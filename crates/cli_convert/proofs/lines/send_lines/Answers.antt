use Rattle.cli_convert.proofs.ToBsonLemmas.{all_sent}
use Rattle.cli_convert.proofs.lines.send_lines.Goals as goal

pub returns : goal.returns
returns g c = all_sent g.O.Sink.tally (g.I.Source.feed c.args.input.now) (g.I.Source.feed c.take_lines.new.input) c.args.output.now c.take_lines.new.target c.take_lines.result c.take_lines.ensures

use Rattle.std.proofs.Common.{◌≡◌, Err, subst, rules}
use Rattle.bson_base.specs.Device.{Feed, Tally}
use Rattle.cli_convert.specs.ToBson.{EndsBehind, TakesNothing}
use Rattle.cli_convert.specs.declared.stop.Stop.{Stop}
use Rattle.cli_convert.specs.declared.stop.Stop.TheVariants.{Writer}
use Rattle.cli_convert.proofs.ToBsonLemmas.{spoiled_behind, still_refused, still_well}
use Rattle.cli_convert.proofs.lines.write_documents.Goals as goal

pub returns-in-Ok : goal.returns-in-Ok
returns-in-Ok g c = still_well (g.I.Source.feed c.args.input.now) (g.I.Source.feed c.send_lines.new.input) (g.O.Sink.tally c.args.output.now) (g.O.Sink.tally c.send_lines.new.output) c.in-Ok.ensures

pub returns-in-Err-Writer : goal.returns-in-Err-Writer
returns-in-Err-Writer g c =
    let old : Feed = g.I.Source.feed c.args.input.now in
    let new : Feed = g.I.Source.feed c.send_lines.new.input in
    let before : Tally = g.O.Sink.tally c.args.output.now in
    let after : Tally = g.O.Sink.tally c.send_lines.new.output in
    still_refused old new before after (subst (λ (e : Stop). EndsBehind TakesNothing old new before after (Err e)) c.in-Err-Writer.field-0-is c.in-Err-Writer.ensures)

pub returns-in-Err : goal.returns-in-Err
returns-in-Err g c =
    let other : c.in-Err.stop ≡ Writer → ⊥ = search rules in
    spoiled_behind (g.I.Source.feed c.args.input.now) (g.I.Source.feed c.send_lines.new.input) (g.O.Sink.tally c.args.output.now) (g.O.Sink.tally c.send_lines.new.output) (g.O.Sink.tally c.spoil.new.output) c.spoil.ensures c.in-Err.stop other c.in-Err.ensures

use Rattle.std.proofs.Common.{Bool, Ok, subst}
use Rattle.bson_base.specs.Device.{Feed, Tally}
use Rattle.cli_convert.specs.ToLines.{TurnsLine}
use Rattle.cli_convert.proofs.ToLinesLemmas.{begun, can_go_on, went_on}
use Rattle.cli_convert.proofs.documents.write_lines.Goals as goal

pub loop-index-init : goal.loop-index-init
loop-index-init g c = record {
  so_far = begun c.args.mode (g.I.Source.feed c.args.input.now) (g.O.Sink.tally c.args.output.now);
  can_fail = c.requires.input;
  can_refuse = c.requires.output;
}

pub loop-index-preserved : goal.loop-index-preserved
loop-index-preserved g c =
    let l = c.loop-index in
    let mid : Feed = g.I.Source.feed l.input in
    let new : Feed = g.I.Source.feed c.turn.new.input in
    let sent : Tally = g.O.Sink.tally l.output in
    let after : Tally = g.O.Sink.tally c.turn.new.output in
    let turned = subst (λ (b : Bool). TurnsLine c.args.mode l.index mid new sent after (Ok b)) c.if-not-branch.false c.in_ok-turn.ensures in
    let can = can_go_on c.args.mode l.index mid new sent after turned l.invariant.can_fail l.invariant.can_refuse in
    record {
      so_far = went_on c.args.mode l.index (g.I.Source.feed c.args.input.now) mid new (g.O.Sink.tally c.args.output.now) sent after l.invariant.so_far turned;
      can_fail = can.0;
      can_refuse = can.1;
    }

use Rattle.std.proofs.Common.{Bool, Ok, Err, subst}
use Rattle.std.proofs.lemmas.Result.{err_from_is_err_and}
use Rattle.bson_base.specs.Device.{Feed}
use Rattle.cli_convert.specs.LineReader.{waiting}
use Rattle.cli_convert.specs.Lines.{TakesNext}
use Rattle.cli_convert.proofs.TakeLemmas.{begun, can_go_on, ended, nothing_read, went_on}
use Rattle.cli_convert.proofs.taking.take_lines.Goals as goal

pub returns-in_err-new : goal.returns-in_err-new
returns-in_err-new g c =
    let p = err_from_is_err_and c.from_residual.result c.from_residual.ensures.1 in
    rw (p.1, p.2) (nothing_read g.W.Take.takes (g.I.Source.feed c.args.input.now) c.args.target.now)

pub loop-index-init : goal.loop-index-init
loop-index-init g c = record {
  so_far = begun g.W.Take.takes (g.I.Source.feed c.args.input.now) c.args.target.now (waiting c.in_ok-new.field-0) c.in_ok-new.ensures;
  can_fail = c.requires.input;
  can_take = c.requires.target;
}

pub loop-index-preserved : goal.loop-index-preserved
loop-index-preserved g c =
    let l = c.loop-index in
    let mid : Feed = g.I.Source.feed l.input in
    let new : Feed = g.I.Source.feed c.turn.new.input in
    let waits = waiting l.room.lines in
    let left = waiting c.turn.new.room.lines in
    let turned = subst (λ (b : Bool). TakesNext g.W.Take.takes l.index mid new waits left l.target c.turn.new.target (Ok b)) c.if-not-branch.false c.in_ok-turn.ensures.taken in
    record {
      so_far = went_on g.W.Take.takes l.index (g.I.Source.feed c.args.input.now) mid new waits left c.args.target.now l.target c.turn.new.target l.invariant.so_far turned;
      can_fail = can_go_on turned.0 mid new waits left turned.1 l.invariant.can_fail;
      can_take = c.in_ok-turn.ensures.more;
    }

pub returns-in_err-turn : goal.returns-in_err-turn
returns-in_err-turn g c =
    let l = c.loop-index in
    let p = err_from_is_err_and c.from_residual-in_err-turn.result c.from_residual-in_err-turn.ensures.1 in
    rw (p.1, p.2)
    (ended g.W.Take.takes l.index (g.I.Source.feed c.args.input.now) (g.I.Source.feed l.input) (g.I.Source.feed c.turn.new.input) (waiting l.room.lines) c.args.target.now l.target c.turn.new.target (Err c.in_err-turn.field-0.0) l.invariant.so_far c.in_err-turn.ensures.taken)

use Rattle.std.proofs.Common.{rules, ◌∙◌, ap, ◌+◌, ◌-◌, ◌^◌, inl, inr, ℕ, []}
use Rattle.std.proofs.lemmas.Result.{err_from_is_err_and}
use Rattle.bson_base.specs.Device.{Gives}
use Rattle.cli_convert.specs.LineReader.{waiting}
use Rattle.cli_convert.proofs.CollectLemmas.{begin, filled, failed, finished, went_on, endless}
use Rattle.cli_convert.proofs.line_reader.Lines.read.Goals as goal

pub loop-piece-init : goal.loop-piece-init
loop-piece-init g c =
    let supply = (g.S.Source.feed c.args.source.now).supply in
    let none : Gives supply supply [] = search rules in
    record { fine = search rules; so_far = begin (waiting c.args.self.now) supply c.clear.new.self none c.clear.ensures }

pub returns-in_err-fill : goal.returns-in_err-fill
returns-in_err-fill g c =
    let supply = λ (x : g.row.S.Denot). (g.S.Source.feed x).supply in
    let l = c.loop-piece in
    let p = err_from_is_err_and c.from_residual.result c.from_residual.ensures.1 in
    let f = failed (waiting c.args.self.now) (supply c.args.source.now) (supply l.source) (supply c.fill.new.source) (waiting l.self) l.line l.begun l._piece l.invariant.so_far c.in_err-fill.ensures.err.0 c.in_err-fill.ensures.err.1 in
    rw (p.1) (f.0, f.1, inl (c.in_err-fill.ensures.counts ∙ ap (λ (n : ℕ). n + 1) l.invariant.fine, f.2))

pub returns-then-hand_out : goal.returns-then-hand_out
returns-then-hand_out g c =
    let supply = λ (x : g.row.S.Denot). (g.S.Source.feed x).supply in
    let waited = waiting c.args.self.now in
    let l = c.loop-piece in
    let so_far = filled waited (supply c.args.source.now) (supply l.source) (supply c.fill.new.source) (waiting l.self) (waiting c.fill.new.self) l.line l.begun l._piece l.invariant.so_far c.in_ok-fill.ensures.bytes in (
      c.in_ok-fill.ensures.counts ∙ l.invariant.fine,
      finished waited (supply c.args.source.now) (supply c.fill.new.source) (waiting c.fill.new.self) (waiting c.hand_out.new.self) l.line c.hand_out.new.line l.begun l._piece so_far c.if-hand_out.ensures.piece,
    )

pub loop-piece-preserved : goal.loop-piece-preserved
loop-piece-preserved g c =
    let supply = λ (x : g.row.S.Denot). (g.S.Source.feed x).supply in
    let waited = waiting c.args.self.now in
    let l = c.loop-piece in
    let so_far = filled waited (supply c.args.source.now) (supply l.source) (supply c.fill.new.source) (waiting l.self) (waiting c.fill.new.self) l.line l.begun l._piece l.invariant.so_far c.in_ok-fill.ensures.bytes in
    record {
      fine = c.in_ok-fill.ensures.counts ∙ l.invariant.fine;
      so_far = went_on waited (supply c.args.source.now) (supply c.fill.new.source) (waiting c.fill.new.self) (waiting c.hand_out.new.self) l.line c.hand_out.new.line l.begun l._piece so_far c.if-hand_out.ensures.piece c.if-hand_out.ensures.whole (c.in_ok-fill.ensures.some.0 c.if-not-branch.false);
    }

pub returns : goal.returns
returns g c =
    let l = c.loop-piece in
    let e = endless (waiting c.args.self.now) (g.S.Source.feed c.args.source.now).supply (g.S.Source.feed l.source).supply (waiting l.self) l.line l.begun l._piece (2 ^ 64 - 1) l.invariant.so_far c.loop-piece-test.false in
    (e.0, e.1, inr e.2)

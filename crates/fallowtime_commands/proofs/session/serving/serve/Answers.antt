use Rattle.std.proofs.Common.{rules, [], Ok, Err}
use Rattle.std.proofs.lemmas.Result.{err_from_is_err_and}
use Rattle.std.specs.Io.KnownBytes.{Appends}
use Rattle.bson_store.specs.Calls.{store_state}
use Rattle.bson_base.specs.Device.{Gives}
use Rattle.cli_convert.specs.LineReader.{waiting}
use Rattle.store_model.specs.declared.error.ErrorKind.TheVariants.{Reader}
use Rattle.fallowtime_commands.proofs.SessionLemmas.{begin, on_whole, on_last, on_end, on_unsent, cannot_read, endless, held}
use Rattle.fallowtime_commands.proofs.session.serving.serve.Goals as goal

pub loop-turn-init : goal.loop-turn-init
loop-turn-init g c =
    let fed = g.I.Source.feed c.args.input.now in
    let old = g.O.Sink.tally c.args.output.now in
    let gives : Gives fed.supply fed.supply [] = search rules in
    let takes : Appends old.taken old.taken [] = search rules in
    begin (store_state g.S.Store c.args.store.now) c.args.maker.now fed old (waiting c.in-Ok.lines) c.in-Ok.ensures gives takes

pub loop-turn-preserved : goal.loop-turn-preserved
loop-turn-preserved g c =
    let feed = g.I.Source.feed in
    let tally = g.O.Sink.tally in
    let l = c.loop-turn in
    on_whole (store_state g.S.Store c.args.store.now) c.args.maker.now (feed c.args.input.now) (tally c.args.output.now) (store_state g.S.Store l.store) (store_state g.S.Store c.reply_in_time.new.store) l.maker c.reply_in_time.new.maker
    (feed l.input) (feed c.read.new.source) (tally l.output) (tally c.reply_in_time.new.output) l.lines c.read.new.self c.in-Ok-Whole.field-0 c.read.new.line l._turn c.in-Ok-Whole.field-0-is l.invariant c.in-Ok-Whole.ensures c.in_ok-reply_in_time-in-Ok-Whole.ensures

pub returns-in-Ok-Last-clause-crash : goal.returns-in-Ok-Last-clause-crash
returns-in-Ok-Last-clause-crash g c =
    let feed = g.I.Source.feed in
    let tally = g.O.Sink.tally in
    let l = c.loop-turn in
    let last = c.reply_in_time-in-Ok-Last in
    on_last (store_state g.S.Store c.args.store.now) c.args.maker.now (feed c.args.input.now) (tally c.args.output.now) last.result (store_state g.S.Store l.store) (store_state g.S.Store last.new.store) l.maker last.new.maker
    (feed l.input) (feed c.read.new.source) (tally l.output) (tally last.new.output) l.lines c.read.new.self c.in-Ok-Last.field-0 c.read.new.line l._turn c.in-Ok-Last.field-0-is l.invariant c.in-Ok-Last.ensures last.ensures

pub returns-in-Ok-End-clause-crash : goal.returns-in-Ok-End-clause-crash
returns-in-Ok-End-clause-crash g c =
    let feed = g.I.Source.feed in
    let tally = g.O.Sink.tally in
    let l = c.loop-turn in
    on_end (store_state g.S.Store c.args.store.now) c.args.maker.now (feed c.args.input.now) (tally c.args.output.now) (store_state g.S.Store l.store) l.maker
    (feed l.input) (feed c.read.new.source) (tally l.output) l.lines c.read.new.self c.in-Ok-End.field-0 c.read.new.line l._turn c.in-Ok-End.field-0-is l.invariant c.in-Ok-End.ensures

pub returns-in_err-reply_in_time-in-Ok-Whole-clause-crash : goal.returns-in_err-reply_in_time-in-Ok-Whole-clause-crash
returns-in_err-reply_in_time-in-Ok-Whole-clause-crash g c =
    let feed = g.I.Source.feed in
    let tally = g.O.Sink.tally in
    let l = c.loop-turn in
    let unsent = c.in_err-reply_in_time-in-Ok-Whole in
    let p = err_from_is_err_and c.from_residual.result c.from_residual.ensures.1 in
    rw (p.1, p.2) (
    on_unsent (store_state g.S.Store c.args.store.now) c.args.maker.now (feed c.args.input.now) (tally c.args.output.now) unsent.field-0.0 (store_state g.S.Store l.store) (store_state g.S.Store c.reply_in_time.new.store) l.maker c.reply_in_time.new.maker
    (feed l.input) (feed c.read.new.source) (tally l.output) (tally c.reply_in_time.new.output) l.lines c.read.new.self c.in-Ok-Whole.field-0 c.read.new.line l._turn c.in-Ok-Whole.field-0-is l.invariant c.in-Ok-Whole.ensures unsent.ensures
    )

pub returns-in-Err-clause-crash : goal.returns-in-Err-clause-crash
returns-in-Err-clause-crash g c =
    let feed = g.I.Source.feed in
    let l = c.loop-turn in
    cannot_read (store_state g.S.Store c.args.store.now) c.args.maker.now (feed c.args.input.now) (g.O.Sink.tally c.args.output.now) (store_state g.S.Store l.store) l.maker
    (feed l.input) (feed c.read.new.source) (g.O.Sink.tally l.output) (waiting l.lines) l._turn l.invariant c.in-Err.ensures

pub returns-clause-crash : goal.returns-clause-crash
returns-clause-crash g c =
    let l = c.loop-turn in
    endless (store_state g.S.Store c.args.store.now) c.args.maker.now (g.I.Source.feed c.args.input.now) (g.O.Sink.tally c.args.output.now) (store_state g.S.Store l.store) l.maker
    (g.I.Source.feed l.input) (g.O.Sink.tally l.output) (waiting l.lines) l._turn l.invariant c.loop-turn-test.false

pub returns-in-Ok-Last-clause-step : goal.returns-in-Ok-Last-clause-step
returns-in-Ok-Last-clause-step g c =
    let last = c.reply_in_time-in-Ok-Last in
    held (store_state g.S.Store c.args.store.now) c.args.maker.now (g.I.Source.feed c.args.input.now) (g.O.Sink.tally c.args.output.now) last.result (store_state g.S.Store last.new.store) last.new.maker (g.I.Source.feed c.read.new.source) (g.O.Sink.tally last.new.output) (returns-in-Ok-Last-clause-crash g c)

pub returns-in-Ok-End-clause-step : goal.returns-in-Ok-End-clause-step
returns-in-Ok-End-clause-step g c =
    let l = c.loop-turn in
    held (store_state g.S.Store c.args.store.now) c.args.maker.now (g.I.Source.feed c.args.input.now) (g.O.Sink.tally c.args.output.now) (Ok tt) (store_state g.S.Store l.store) l.maker (g.I.Source.feed c.read.new.source) (g.O.Sink.tally l.output) (returns-in-Ok-End-clause-crash g c)

pub returns-in_err-reply_in_time-in-Ok-Whole-clause-step : goal.returns-in_err-reply_in_time-in-Ok-Whole-clause-step
returns-in_err-reply_in_time-in-Ok-Whole-clause-step g c =
    held (store_state g.S.Store c.args.store.now) c.args.maker.now (g.I.Source.feed c.args.input.now) (g.O.Sink.tally c.args.output.now) c.from_residual.result (store_state g.S.Store c.reply_in_time.new.store) c.reply_in_time.new.maker (g.I.Source.feed c.read.new.source) (g.O.Sink.tally c.reply_in_time.new.output) (returns-in_err-reply_in_time-in-Ok-Whole-clause-crash g c)

pub returns-in-Err-clause-step : goal.returns-in-Err-clause-step
returns-in-Err-clause-step g c =
    let l = c.loop-turn in
    held (store_state g.S.Store c.args.store.now) c.args.maker.now (g.I.Source.feed c.args.input.now) (g.O.Sink.tally c.args.output.now) (Err Reader) (store_state g.S.Store l.store) l.maker (g.I.Source.feed c.read.new.source) (g.O.Sink.tally l.output) (returns-in-Err-clause-crash g c)

pub returns-clause-step : goal.returns-clause-step
returns-clause-step g c =
    let l = c.loop-turn in
    held (store_state g.S.Store c.args.store.now) c.args.maker.now (g.I.Source.feed c.args.input.now) (g.O.Sink.tally c.args.output.now) (Err Reader) (store_state g.S.Store l.store) l.maker (g.I.Source.feed l.input) (g.O.Sink.tally l.output) (returns-clause-crash g c)

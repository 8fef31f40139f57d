use Rattle.std.proofs.lemmas.Result.{err_from_is_err_and}
use Rattle.bson_store.specs.Calls.{store_state}
use Rattle.fallowtime_messages.specs.Waiting.{waiting}
use Rattle.fallowtime_messages.proofs.ExchangeLemmas.{at_end, begin, endless, not_answered, not_taken, went_on}
use Rattle.fallowtime_messages.proofs.wire.serve.Goals as goal

pub loop-turn-init : goal.loop-turn-init
loop-turn-init g c = begin c.args.database.now (store_state g.S.Store c.args.store.now) (g.I.Source.feed c.args.input.now) (g.O.Sink.tally c.args.output.now) (waiting c.new-cursors.result) c.new-cursors.ensures

pub loop-turn-preserved : goal.loop-turn-preserved
loop-turn-preserved g c =
    let feed = g.I.Source.feed in
    let tally = g.O.Sink.tally in
    let l = c.loop-turn in
    let arm = c.in-Ok-true in
    went_on c.args.database.now (store_state g.S.Store c.args.store.now) (feed c.args.input.now) (tally c.args.output.now)
    (store_state g.S.Store l.store) (feed l.input) (tally l.output) (waiting l.cursors) l.turn l.invariant
    (store_state g.S.Store c.exchange.new.store) (feed c.next_message.new.source) (tally c.exchange.new.output) (waiting c.exchange.new.cursors) c.next_message.new.room.items c.as_slice.result.now arm.field-0 c.number_behind.result arm.field-0-test c.number_behind.ensures c.as_slice.ensures.value arm.ensures
    c.in_ok-exchange-in-Ok-true.ensures

pub returns-in_err-exchange-in-Ok-true : goal.returns-in_err-exchange-in-Ok-true
returns-in_err-exchange-in-Ok-true g c =
    let feed = g.I.Source.feed in
    let tally = g.O.Sink.tally in
    let l = c.loop-turn in
    let arm = c.in-Ok-true in
    let unsent = c.in_err-exchange-in-Ok-true in
    let p = err_from_is_err_and c.from_residual.result c.from_residual.ensures.1 in
    rw (p.1, p.2) (
    not_answered c.args.database.now (store_state g.S.Store c.args.store.now) (feed c.args.input.now) (tally c.args.output.now)
    (store_state g.S.Store l.store) (feed l.input) (tally l.output) (waiting l.cursors) l.turn l.invariant
    (store_state g.S.Store c.exchange.new.store) (feed c.next_message.new.source) (tally c.exchange.new.output) (waiting c.exchange.new.cursors) c.next_message.new.room.items c.as_slice.result.now arm.field-0 c.number_behind.result arm.field-0-test c.number_behind.ensures c.as_slice.ensures.value arm.ensures
    unsent.field-0.0 unsent.ensures
    )

pub returns-in-Ok-false : goal.returns-in-Ok-false
returns-in-Ok-false g c =
    let feed = g.I.Source.feed in
    let tally = g.O.Sink.tally in
    let l = c.loop-turn in
    let arm = c.in-Ok-false in
    at_end c.args.database.now (store_state g.S.Store c.args.store.now) (feed c.args.input.now) (tally c.args.output.now)
    (store_state g.S.Store l.store) (feed l.input) (tally l.output) (waiting l.cursors) l.turn l.invariant
    (feed c.next_message.new.source) c.next_message.new.room.items arm.field-0 arm.field-0-test arm.ensures

pub returns-in-Err : goal.returns-in-Err
returns-in-Err g c =
    let feed = g.I.Source.feed in
    let tally = g.O.Sink.tally in
    let l = c.loop-turn in
    not_taken c.args.database.now (store_state g.S.Store c.args.store.now) (feed c.args.input.now) (tally c.args.output.now)
    (store_state g.S.Store l.store) (feed l.input) (tally l.output) (waiting l.cursors) l.turn l.invariant
    (feed c.next_message.new.source) c.next_message.new.room.items c.in-Err.fault c.kind_of.result c.kind_of.ensures c.in-Err.ensures

pub returns : goal.returns
returns g c =
    let l = c.loop-turn in
    endless c.args.database.now (store_state g.S.Store c.args.store.now) (g.I.Source.feed c.args.input.now) (g.O.Sink.tally c.args.output.now)
    (store_state g.S.Store l.store) (g.I.Source.feed l.input) (g.O.Sink.tally l.output) (waiting l.cursors) l.turn l.invariant c.loop-turn-test.false

use Rattle.bson_store.specs.Calls.{store_state}
use Rattle.fallowtime_messages.specs.Waiting.{waiting}
use Rattle.fallowtime_messages.proofs.ExchangeLemmas.{SoFar}
use Rattle.fallowtime_messages.proofs.wire.serve.Given as goal

abbrev pub invariant-loop-turn : goal.invariant-loop-turn
invariant-loop-turn g l =
    SoFar l.fn.database (store_state g.S.Store l.fn.store) (store_state g.S.Store l.store) (g.I.Source.feed l.fn.input) (g.I.Source.feed l.input) (g.O.Sink.tally l.fn.output) (g.O.Sink.tally l.output) (waiting l.cursors) l.turn

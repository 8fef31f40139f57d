use Rattle.bson_store.specs.Calls.{store_state}
use Rattle.cli_convert.specs.LineReader.{waiting}
use Rattle.fallowtime_commands.proofs.SessionLemmas.{SoFar}
use Rattle.fallowtime_commands.proofs.session.serving.serve.Given as goal

abbrev pub invariant-loop-turn : goal.invariant-loop-turn
invariant-loop-turn g l =
    SoFar (store_state g.S.Store l.fn.store) (store_state g.S.Store l.store) l.fn.maker l.maker (g.I.Source.feed l.fn.input) (g.I.Source.feed l.input) (g.O.Sink.tally l.fn.output) (g.O.Sink.tally l.output) (waiting l.lines) l._turn

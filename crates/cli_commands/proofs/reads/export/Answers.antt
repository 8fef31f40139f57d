use Rattle.bson_base.specs.Device.{Tally}
use Rattle.bson_store.specs.Calls.{store_state}
use Rattle.cli_commands.proofs.SendLemmas.{sent_all, not_sent}
use Rattle.cli_commands.proofs.reads.export.Goals as goal

pub returns-in-Ok-clause-step : goal.returns-in-Ok-clause-step
returns-in-Ok-clause-step g c f =
    let old : Tally = g.O.Sink.tally c.args.output.now in
    let new : Tally = g.O.Sink.tally c.export.new.writer in
    sent_all c.args.name.now f old new (store_state g.S.Store c.args.store.now) (store_state g.S.Store c.export.new.self) c.in-Ok.ensures.moves

pub returns-in-Err-clause-step : goal.returns-in-Err-clause-step
returns-in-Err-clause-step g c f =
    let old : Tally = g.O.Sink.tally c.args.output.now in
    let new : Tally = g.O.Sink.tally c.export.new.writer in
    not_sent c.args.name.now f old new (store_state g.S.Store c.args.store.now) (store_state g.S.Store c.export.new.self) c.in-Err.error c.in-Err.ensures.moves

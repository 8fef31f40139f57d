use Rattle.std.proofs.Common.{map, string_bytes}
use Rattle.std.proofs.lemmas.Result.{err_from_is_err_and}
use Rattle.bson_base.specs.Device.{Feed, Tally}
use Rattle.bson_store.specs.Calls.{store_state}
use Rattle.cli_commands.proofs.DeviceLemmas.{none_reports}
use Rattle.cli_commands.proofs.EndLemmas.{not_asked}
use Rattle.cli_commands.proofs.CrashLemmas.{of_none}
use Rattle.cli_commands.proofs.InputLemmas.{spares_same}
use Rattle.cli_commands.proofs.program.obey.Goals as goal

pub returns-in_err-request-clause-step : goal.returns-in_err-request-clause-step
returns-in_err-request-clause-step g c =
    let w = c.args.words.now in
    let fed : Feed = g.I.Source.feed c.args.input.now in
    let old : Tally = g.O.Sink.tally c.args.output.now in
    let p = err_from_is_err_and c.from_residual.result c.from_residual.ensures.1 in
    rw (p.1, p.2) (not_asked (store_state g.S.Store c.args.store.now) w.call w.coll.now (map string_bytes w.rest.now) fed old c.in_err-request.field-0.0 c.in_err-request.ensures)

pub returns-in_err-request-clause-crash : goal.returns-in_err-request-clause-crash
returns-in_err-request-clause-crash g c =
    let w = c.args.words.now in
    let fed : Feed = g.I.Source.feed c.args.input.now in
    let old : Tally = g.O.Sink.tally c.args.output.now in
    let p = err_from_is_err_and c.from_residual.result c.from_residual.ensures.1 in
    rw (p.1, p.2) (of_none (store_state g.S.Store c.args.store.now) w.call w.coll.now (map string_bytes w.rest.now) fed fed old old c.in_err-request.field-0.0)

pub returns-in_err-request-clause-spared : goal.returns-in_err-request-clause-spared
returns-in_err-request-clause-spared g c = spares_same c.args.words.now.call c.args.input.now

pub returns-in_err-request-clause-devices : goal.returns-in_err-request-clause-devices
returns-in_err-request-clause-devices g c =
    let w = c.args.words.now in
    let p = err_from_is_err_and c.from_residual.result c.from_residual.ensures.1 in
    rw (p.1, p.2) (none_reports w.call (map string_bytes w.rest.now) c.in_err-request.field-0.0 (g.I.Source.feed c.args.input.now).failures (g.O.Sink.tally c.args.output.now).failures c.in_err-request.ensures)

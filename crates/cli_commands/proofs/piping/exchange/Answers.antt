use Rattle.std.proofs.lemmas.Result.{err_from_is_err_and}
use Rattle.sqlite.specs.Steps.{over_memory}
use Rattle.sqlite.proofs.Callers.{memory_is_clean}
use Rattle.bson_base.specs.Device.{Feed, Tally}
use Rattle.bson_store.specs.Calls.{store_connection, store_state}
use Rattle.cli_commands.proofs.PipeSendLemmas.{nothing_out, all_out, some_out}
use Rattle.cli_commands.proofs.piping.exchange.Goals as goal

pub returns-in_err-store : goal.returns-in_err-store
returns-in_err-store g c =
    let old : Feed = g.I.Source.feed c.args.input.now in
    let new : Feed = g.I.Source.feed c.keep.new.input in
    let out : Tally = g.O.Sink.tally c.args.output.now in
    let p = err_from_is_err_and c.from_residual.result c.from_residual.ensures.1 in
    rw (p.1, p.2) (nothing_out c.in_err-store.field-0.0 old new out c.in_err-store.ensures.err)

pub returns-in-Ok : goal.returns-in-Ok
returns-in-Ok g c =
    let old : Feed = g.I.Source.feed c.args.input.now in
    let new : Feed = g.I.Source.feed c.keep.new.input in
    let before : Tally = g.O.Sink.tally c.args.output.now in
    let after : Tally = g.O.Sink.tally c.export.new.writer in
    all_out (store_state over_memory c.in_ok-store.store) (store_state over_memory c.export.new.self) old new before after (memory_is_clean (store_connection c.export.new.self)) c.in_ok-store.ensures.ok c.in-Ok.ensures.moves

pub returns : goal.returns
returns g c =
    let old : Feed = g.I.Source.feed c.args.input.now in
    let new : Feed = g.I.Source.feed c.keep.new.input in
    let before : Tally = g.O.Sink.tally c.args.output.now in
    let after : Tally = g.O.Sink.tally c.export.new.writer in
    some_out (store_state over_memory c.in_ok-store.store) (store_state over_memory c.export.new.self) old new before after c.in-Err.error (memory_is_clean (store_connection c.export.new.self)) c.in_ok-store.ensures.ok c.in-Err.ensures.moves

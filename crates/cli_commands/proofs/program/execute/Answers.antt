use Rattle.std.proofs.Common.{Ok, Err, refl, subst}
use Rattle.bson_base.specs.Device.{Feed, Tally}
use Rattle.sqlite.specs.State.{State}
use Rattle.bson_store.specs.Calls.{store_state}
use Rattle.cli_commands.specs.Lines.{complaint_line, refusal_line}
use Rattle.cli_commands.specs.Execute.{streams}
use Rattle.cli_commands.specs.Outcome.{HasOutcome}
use Rattle.cli_commands.specs.declared.stop.Failure.{Failure}
use Rattle.cli_commands.specs.declared.stop.Failure.TheVariants.{Refused, Words}
use Rattle.cli_commands.proofs.ReportLemmas.{writes}
use Rattle.cli_commands.proofs.program.execute.Goals as goal

pub returns-in-Ok-clause-step : goal.returns-in-Ok-clause-step
returns-in-Ok-clause-step g c =
    let done = c.in-Ok.ensures in
    (Ok tt, refl, record { moves = done.step; stays = done.open; crash = done.crash; devices = done.devices })

pub returns-in-Err-Refused-clause-step : goal.returns-in-Err-Refused-clause-step
returns-in-Err-Refused-clause-step g c =
    let e = c.in-Err-Refused.error in
    let line = c.write_refusal in
    let done = c.in-Err-Refused.ensures in
    let s : State = store_state g.S.Store c.args.store.now in
    let t : State = store_state g.S.Store c.obey.new.store in
    let fed : Feed = g.I.Source.feed c.args.input.now in
    let left : Feed = g.I.Source.feed c.obey.new.input in
    let old : Tally = g.O.Sink.tally c.args.output.now in
    let new : Tally = g.O.Sink.tally c.obey.new.output in (
      Err (Refused e),
      (refl, writes line.result (g.F.Sink.tally c.args.faults.now) (g.F.Sink.tally line.new.sink) (refusal_line e.kind e.document) line.ensures.counts line.ensures.ok line.ensures.err),
      subst (λ (x : Failure). HasOutcome c.args.words.now (streams fed left old new) (Err x) s t) c.in-Err-Refused.field-0-is (record { moves = done.step; stays = done.open; crash = done.crash; devices = done.devices }),
    )

pub returns-in-Err-Words-clause-step : goal.returns-in-Err-Words-clause-step
returns-in-Err-Words-clause-step g c =
    let w = c.in-Err-Words.complaint in
    let line = c.write_complaint in
    let done = c.in-Err-Words.ensures in
    let s : State = store_state g.S.Store c.args.store.now in
    let t : State = store_state g.S.Store c.obey.new.store in
    let fed : Feed = g.I.Source.feed c.args.input.now in
    let left : Feed = g.I.Source.feed c.obey.new.input in
    let old : Tally = g.O.Sink.tally c.args.output.now in
    let new : Tally = g.O.Sink.tally c.obey.new.output in (
      Err (Words w),
      (refl, writes line.result (g.F.Sink.tally c.args.faults.now) (g.F.Sink.tally line.new.sink) (complaint_line w) line.ensures.counts line.ensures.ok line.ensures.err),
      subst (λ (x : Failure). HasOutcome c.args.words.now (streams fed left old new) (Err x) s t) c.in-Err-Words.field-0-is (record { moves = done.step; stays = done.open; crash = done.crash; devices = done.devices }),
    )

use Rattle.std.proofs.Common.{inl, inr, refl, subst, sym}
use Rattle.sqlite.specs.Held.{state}
use Rattle.bson_store.specs.Calls.{store_connection}
use Rattle.cli_commands.specs.Execute.{streams}
use Rattle.cli_commands.specs.Outcome.{HasOutcome}
use Rattle.bson_store_cli.proofs.ServeLemmas.{refusal_reported}
use Rattle.bson_store_cli.proofs.commands.over.Goals as goal

pub returns-in-Ok-clause-done : goal.returns-in-Ok-clause-done
returns-in-Ok-clause-done g c =
    let opened = c.in-Ok.ensures in
    let step = c.execute-status.ensures.step in
    let from = store_connection c.in-Ok.store in
    let known = streams (g.I.Source.feed c.args.input.now) (g.I.Source.feed c.execute-status.new.input) (g.O.Sink.tally c.args.output.now) (g.O.Sink.tally c.execute-status.new.output) in
    inl (
      from,
      record { opens = opened.opened; finds = opened.finds; crash = opened.crash },
      (step.0, step.1, subst (λ k. HasOutcome c.args.words.now known step.0 (state g.S.Store from) (state g.S.Store k)) (sym c.close.ensures) step.2),
    )

pub returns-in-Ok-clause-told : goal.returns-in-Ok-clause-told
returns-in-Ok-clause-told g c = (c.execute-status.ensures.step.0, c.execute-status.ensures.step.1)

pub returns-in-Err-clause-done : goal.returns-in-Err-clause-done
returns-in-Err-clause-done g c =
    let refused = c.in-Err.ensures in
    inr (c.in-Err.error, record { refused = refused.refused; kept = refused.kept; crash = refused.crash_refused }, (c.refuse.ensures.status, c.refuse.ensures.line, refl, refl))

pub returns-in-Err-clause-told : goal.returns-in-Err-clause-told
returns-in-Err-clause-told g c = refusal_reported c.in-Err.error.kind (g.F.Sink.tally c.args.faults.now) (g.F.Sink.tally c.refuse.new.faults) c.refuse.ensures.status c.refuse.ensures.line

use Rattle.std.proofs.Common.{inl, subst, sym}
use Rattle.sqlite.specs.Held.{state}
use Rattle.bson_store.specs.Calls.{store_connection}
use Rattle.bson_store_cli.specs.Applying.{Applies}
use Rattle.bson_store_cli.proofs.applying.apply_over.Goals as goal

pub returns-in-Ok : goal.returns-in-Ok
returns-in-Ok g c =
    let opened = c.in-Ok.ensures in
    let applied = c.apply_in-ended in
    let from = store_connection c.in-Ok.store in
    let before = g.O.Sink.tally c.args.output.now in
    let after = g.O.Sink.tally applied.new.output in
    inl (
      from,
      record { opens = opened.opened; finds = opened.finds; crash = opened.crash },
      subst (λ k. Applies c.args.questions.now c.args.lines.now before after applied.result (state g.S.Store from) (state g.S.Store k)) (sym c.close.ensures) applied.ensures,
    )

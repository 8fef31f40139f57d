use Rattle.std.proofs.Common.{inl, inr, option_map, refl, subst, sym}
use Rattle.sqlite.specs.Held.{state}
use Rattle.bson_store.specs.Calls.{store_connection}
use Rattle.bson_store_cli.specs.Serving.{AnswersRequests}
use Rattle.bson_store_cli.proofs.fallowtime.answer_over.Goals as goal

pub returns-in-Ok : goal.returns-in-Ok
returns-in-Ok g c =
    let opened = c.in-Ok.ensures in
    let served = c.answer-ended in
    let from = store_connection c.in-Ok.store in
    let fed = g.I.Source.feed c.args.input.now in
    let left = g.I.Source.feed served.new.input in
    let before = g.O.Sink.tally c.args.output.now in
    let after = g.O.Sink.tally served.new.output in
    inl (
      from,
      record { opens = opened.opened; finds = opened.finds; crash = opened.crash },
      subst (λ k. AnswersRequests (option_map (λ t. t.now) c.args.database) c.args.maker.now served.new.maker fed left before after served.result (state g.S.Store from) (state g.S.Store k)) (sym c.close.ensures) served.ensures,
    )

pub returns-in-Err : goal.returns-in-Err
returns-in-Err g c =
    let refused = c.in-Err.ensures in
    inr (c.in-Err.error, record { refused = refused.refused; kept = refused.kept; crash = refused.crash_refused }, (search, refl, refl, refl))

use Rattle.std.proofs.Common.{inl, inr, refl, subst, sym}
use Rattle.sqlite.specs.Held.{state}
use Rattle.bson_store.specs.Calls.{store_connection}
use Rattle.fallowtime_front.specs.Asking.{form_by}
use Rattle.bson_store_cli.specs.Serving.{ServesExport, ServesRequest}
use Rattle.bson_store_cli.proofs.fallowtime.over.Goals as goal

pub returns-in-Ok : goal.returns-in-Ok
returns-in-Ok g c =
    let opened = c.in-Ok.ensures in
    let served = c.serve_store-ended in
    let from = store_connection c.in-Ok.store in
    let asked = c.args.asked.now in
    let options = c.args.words.now.options in
    let before = g.O.Sink.tally c.args.output.now in
    let after = g.O.Sink.tally served.new.output in
    inl (
      from,
      record { opens = opened.opened; finds = opened.finds; crash = opened.crash },
      (
        subst (λ k. ServesRequest asked (form_by options.bytes options.canonical) before after served.result (state g.S.Store from) (state g.S.Store k)) (sym c.close.ensures) served.ensures.request,
        subst (λ k. ServesExport asked before after served.result (state g.S.Store from) (state g.S.Store k)) (sym c.close.ensures) served.ensures.export,
      ),
    )

pub returns-in-Err : goal.returns-in-Err
returns-in-Err g c =
    let refused = c.in-Err.ensures in
    inr (c.in-Err.error, record { refused = refused.refused; kept = refused.kept; crash = refused.crash_refused }, (search, refl))

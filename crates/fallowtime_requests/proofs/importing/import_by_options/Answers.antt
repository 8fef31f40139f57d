use Rattle.std.proofs.Common.{inl, inr, refl, sym}
use Rattle.std.proofs.lemmas.Result.{err_from_is_err_and}
use Rattle.json.specs.Json.{item, no_items}
use Rattle.json.specs.Value.{value_view}
use Rattle.fallowtime_words.specs.declared.command.Command.TheVariants as command
use Rattle.fallowtime_requests.specs.Arranging.{SaysExisting}
use Rattle.fallowtime_requests.specs.Requests.{with_existing}
use Rattle.fallowtime_requests.specs.declared.request.Request.TheVariants as request
use Rattle.fallowtime_requests.specs.declared.request.Existing.TheVariants as existing
use Rattle.fallowtime_requests.proofs.AskLemmas.{said}
use Rattle.fallowtime_requests.proofs.importing.import_by_options.Goals as goal

pub returns-in-Some : goal.returns-in-Some
returns-in-Some c =
    said SaysExisting with_existing c.args.maker.now c.stream_in.new.maker command.Import (item (value_view c.args.name.now) (item (value_view c.args.documents.now) no_items)) (value_view c.args.options.now) c.plain.result c.in_ok-collection.collection (request.Import c.in_ok-stream.stream existing.Refuse) c.in-Some.existing c.plain.ensures
    (((rw c.of_value.ensures at c.in_ok-collection.ensures), (rw c.of_value-2.ensures at c.in_ok-stream.ensures)), refl, refl) (sym c.in-Some.ensures)

pub returns-in_err-collection : goal.returns-in_err-collection
returns-in_err-collection c =
    let p = err_from_is_err_and c.from_residual.result c.from_residual.ensures.1 in
    rw (p.1, p.2) (inl (inr (tt, inl (rw c.of_value.ensures at c.in_err-collection.ensures))))

use Rattle.std.proofs.Common.{false, inl, refl, sym}
use Rattle.std.proofs.lemmas.Result.{err_from_is_err_and}
use Rattle.json.specs.Json.{item, no_items}
use Rattle.json.specs.Value.{value_view}
use Rattle.fallowtime_words.specs.declared.command.Command.TheVariants as command
use Rattle.fallowtime_requests.specs.Arranging.{SaysDrops}
use Rattle.fallowtime_requests.specs.Requests.{with_drops}
use Rattle.fallowtime_requests.specs.declared.request.Request.TheVariants as request
use Rattle.fallowtime_requests.specs.declared.request.Transfer.TheVariants as transfer
use Rattle.fallowtime_requests.proofs.AskLemmas.{said}
use Rattle.fallowtime_requests.proofs.transferring.rename_by_options.Goals as goal

pub returns-in_err-collection : goal.returns-in_err-collection
returns-in_err-collection c =
    let p = err_from_is_err_and c.from_residual.result c.from_residual.ensures.1 in
    rw (p.1, p.2) (λ m. inl ((rw (c.of_value.ensures, c.of_value-2.ensures) at c.in_err-collection.ensures) m))

pub returns-in-Some : goal.returns-in-Some
returns-in-Some c =
    λ m. said SaysDrops with_drops m m command.Rename (item (value_view c.args.name.now) (item (value_view c.args.new.now) no_items)) (value_view c.args.options.now) c.plain.result c.in_ok-collection.collection (request.Transfer (transfer.Rename c.in_ok-collection.new false)) c.in-Some.drops c.plain.ensures
    ((rw (c.of_value.ensures, c.of_value-2.ensures) at c.in_ok-collection.ensures) m, refl, refl, refl) (sym c.in-Some.ensures)

use Rattle.std.proofs.Common.{inl, inr, refl, sym}
use Rattle.std.proofs.lemmas.Result.{err_from_is_err_and}
use Rattle.json.specs.Json.{item, no_items}
use Rattle.json.specs.Value.{value_view}
use Rattle.fallowtime_words.specs.declared.command.Command.TheVariants as command
use Rattle.fallowtime_requests.specs.Arranging.{IsPart, with_part}
use Rattle.fallowtime_requests.specs.Requests.{whole_part}
use Rattle.fallowtime_requests.specs.declared.request.Request.TheVariants as request
use Rattle.fallowtime_requests.proofs.AskLemmas.{said}
use Rattle.fallowtime_requests.proofs.limiting.count_by_options.Goals as goal

pub returns-in_err-collection : goal.returns-in_err-collection
returns-in_err-collection c =
    let p = err_from_is_err_and c.from_residual.result c.from_residual.ensures.1 in
    rw (p.1, p.2) (λ m. inl ((rw (c.of_value.ensures, c.of_value-2.ensures) at c.in_err-collection.ensures) m))

pub returns-in_err-part : goal.returns-in_err-part
returns-in_err-part c =
    let p = err_from_is_err_and c.from_residual-in_err-part.result c.from_residual-in_err-part.ensures.1 in
    rw (p.1, p.2) (λ m. inr c.in_err-part.ensures)

pub returns : goal.returns
returns c =
    λ m. said IsPart with_part m m command.Count (item (value_view c.args.name.now) (item (value_view c.args.query.now) no_items)) (value_view c.args.options.now) c.plain.result c.in_ok-collection.collection (request.Count c.in_ok-collection.query whole_part) c.in_ok-part.part c.plain.ensures
    ((rw (c.of_value.ensures, c.of_value-2.ensures) at c.in_ok-collection.ensures) m, refl, refl, refl) c.in_ok-part.ensures

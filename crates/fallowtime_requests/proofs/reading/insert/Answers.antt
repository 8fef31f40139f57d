use Rattle.std.proofs.Common.{map, refl}
use Rattle.std.proofs.lemmas.Result.{err_from_is_err_and}
use Rattle.bson_model.specs.View.{content}
use Rattle.fallowtime_words.specs.declared.command.Command.TheVariants as command
use Rattle.fallowtime_requests.specs.Inputs.{seen}
use Rattle.fallowtime_requests.specs.declared.request.Request.TheVariants as request
use Rattle.fallowtime_requests.proofs.AskLemmas.{asks, no_room}
use Rattle.fallowtime_requests.proofs.reading.insert.Goals as goal

pub returns-clause-asked : goal.returns-clause-asked
returns-clause-asked c =
    asks c.args.maker.now c.with_id.new.maker command.Insert (map seen c.args.arguments.now) c.plain.result c.in_ok-collection.collection (request.Insert c.in_ok-id.id c.in_ok-document.document) c.plain.ensures
    (content c.in_ok-collection.document, c.in_ok-collection.ensures c.args.maker.now, c.in_ok-document.ensures.document, c.with_id.ensures.maker, c.in_ok-id.ensures, refl)

pub returns-in_err-document-clause-asked : goal.returns-in_err-document-clause-asked
returns-in_err-document-clause-asked c =
    let p = err_from_is_err_and c.from_residual-in_err-document.result c.from_residual-in_err-document.ensures.1 in
    rw (p.1, p.2) (
    no_room c.args.maker.now (map seen c.args.arguments.now) c.in_ok-collection.collection.now (content c.in_ok-collection.document) (c.in_ok-collection.ensures c.args.maker.now)
    )

pub returns-in_err-id-clause-asked : goal.returns-in_err-id-clause-asked
returns-in_err-id-clause-asked c =
    let p = err_from_is_err_and c.from_residual-in_err-id.result c.from_residual-in_err-id.ensures.1 in
    rw (p.1, p.2) (
    no_room c.args.maker.now (map seen c.args.arguments.now) c.in_ok-collection.collection.now (content c.in_ok-collection.document) (c.in_ok-collection.ensures c.args.maker.now)
    )

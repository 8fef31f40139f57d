use Rattle.std.proofs.Common.{map, refl}
use Rattle.std.proofs.lemmas.Result.{err_from_is_err_and}
use Rattle.fallowtime_words.specs.declared.command.Command.TheVariants as command
use Rattle.fallowtime_requests.specs.Inputs.{seen}
use Rattle.fallowtime_requests.specs.declared.request.Request.TheVariants as request
use Rattle.fallowtime_requests.specs.declared.request.Work.TheVariants as work
use Rattle.fallowtime_requests.proofs.AskLemmas.{asks}
use Rattle.fallowtime_requests.proofs.reading.update.Goals as goal

pub returns : goal.returns
returns c =
    asks c.args.maker.now c.args.maker.now command.Update (map seen c.args.arguments.now) c.plain.result c.in_ok-collection.collection (request.Change c.in_ok-collection.question (work.Update c.in_ok-collection.steps) c.in_ok-collection.many) c.plain.ensures (c.in_ok-collection.ensures, refl, refl)

pub returns-in_err-collection : goal.returns-in_err-collection
returns-in_err-collection c =
    let p = err_from_is_err_and c.from_residual.result c.from_residual.ensures.1 in
    rw (p.1, p.2) c.in_err-collection.ensures

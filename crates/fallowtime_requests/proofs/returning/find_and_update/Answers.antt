use Rattle.std.proofs.Common.{map, refl}
use Rattle.std.proofs.lemmas.Result.{err_from_is_err_and}
use Rattle.fallowtime_words.specs.declared.command.Command.TheVariants as command
use Rattle.fallowtime_requests.specs.Inputs.{seen}
use Rattle.fallowtime_requests.specs.declared.request.Request.TheVariants as request
use Rattle.fallowtime_requests.specs.declared.request.Work.TheVariants as work
use Rattle.fallowtime_requests.proofs.AskLemmas.{asks}
use Rattle.fallowtime_requests.proofs.returning.find_and_update.Goals as goal

pub returns : goal.returns
returns c =
    asks c.args.maker.now c.args.maker.now command.FindAndUpdate (map seen c.args.arguments.now) c.plain.result c.in_ok-collection.collection (request.FindAndChange c.in_ok-collection.question c.all_of.result (work.Update c.in_ok-collection.steps)) c.plain.ensures
    (c.in_ok-collection.ensures, c.all_of.ensures, refl, refl)

pub returns-in_err-collection : goal.returns-in_err-collection
returns-in_err-collection c =
    let p = err_from_is_err_and c.from_residual.result c.from_residual.ensures.1 in
    rw (p.1, p.2) c.in_err-collection.ensures

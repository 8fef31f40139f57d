use Rattle.std.proofs.Common.{◌≡◌, inr}
use Rattle.std.proofs.lemmas.Result.{err_from_is_err_and}
use Rattle.fallowtime_requests.specs.Reading.{KeepsMaker}
use Rattle.fallowtime_requests.specs.declared.stop.Stop.{Stop}
use Rattle.fallowtime_requests.specs.declared.stop.Stop.TheVariants.{Words, Memory}
use Rattle.cli_convert.specs.declared.made.IdMaker.{IdMaker}
use Rattle.fallowtime_requests.proofs.ArrangeLemmas.{not_import, same_maker}
use Rattle.fallowtime_requests.proofs.arranging.find_by_options.Goals as goal

keeps : (m n : IdMaker) (s : Stop) → n ≡ m → KeepsMaker m n s
keeps m n (Words u) same = same
keeps m n Memory same = tt

pub returns-in-Ok-clause-asked : goal.returns-in-Ok-clause-asked
returns-in-Ok-clause-asked c =
    (c.in_ok-question.question.request, c.in-Ok.wanted, rw (c.wanting.ensures.1, c.wanting.ensures.2) c.in_ok-question.ensures.asked, rw c.has_after.ensures at c.in-Ok.ensures, c.wanting.ensures.0)

pub returns-in-Err-clause-asked : goal.returns-in-Err-clause-asked
returns-in-Err-clause-asked c = rw c.given_up.ensures (inr (rw c.has_after.ensures at c.in-Err.ensures))

pub returns-in-Err-clause-maker : goal.returns-in-Err-clause-maker
returns-in-Err-clause-maker c =
    let q = c.in_ok-question.question in
    keeps c.args.maker.now c.question_of_items.new.maker c.given_up.result (same_maker c.args.maker.now c.question_of_items.new.maker _ q.collection.now c.args.command q.request q.layout c.requires c.in_ok-question.ensures.asked)

pub returns-in_err-question-clause-maker : goal.returns-in_err-question-clause-maker
returns-in_err-question-clause-maker c =
    let p = err_from_is_err_and c.from_residual.result c.from_residual.ensures.1 in
    rw (p.1, p.2) (c.in_err-question.ensures.maker (not_import c.args.command c.requires))

use Rattle.std.proofs.Common.{◌∙◌, ap}
use Rattle.std.proofs.lemmas.Result.{err_from_is_err_and}
use Rattle.store_asked.proofs.AskLemmas.{answered_as, refused_as}
use Rattle.fallowtime_commands.specs.Asking.{HasPart, counted}
use Rattle.fallowtime_commands.proofs.asking.count_in_pages.Goals as goal

pub returns-in_err-count-clause-reads : goal.returns-in_err-count-clause-reads
returns-in_err-count-clause-reads g c clean docs are =
    let p = err_from_is_err_and c.from_residual.result c.from_residual.ensures.1 in
    rw (p.1, p.2) (refused_as _ (HasPart c.args.part.now) _ _ docs docs c.in_err-count.field-0.0 (c.in_err-count.ensures.reads clean docs are))

pub returns-clause-reads : goal.returns-clause-reads
returns-clause-reads g c clean docs are =
    answered_as _ (HasPart c.args.part.now) _ _ docs docs c.in_ok-count.count c.counted.result (λ ds t. c.counted.ensures ∙ ap (counted c.args.part.now) t) (c.in_ok-count.ensures.reads clean docs are)

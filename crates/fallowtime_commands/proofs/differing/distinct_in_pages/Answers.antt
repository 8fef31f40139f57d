use Rattle.std.proofs.Common.{◌∙◌, subst}
use Rattle.store_question.specs.Filters.{path_of}
use Rattle.std.proofs.lemmas.Result.{err_from_is_err_and}
use Rattle.store_asked.proofs.AskLemmas.{answered_as, refused_as}
use Rattle.fallowtime_commands.specs.Asking.{AreCounted}
use Rattle.fallowtime_commands.proofs.differing.distinct_in_pages.Goals as goal

pub returns-in_err-taken-clause-reads : goal.returns-in_err-taken-clause-reads
returns-in_err-taken-clause-reads g c clean docs are =
    let p = err_from_is_err_and c.from_residual.result c.from_residual.ensures.1 in
    rw (p.1, p.2) (refused_as _ (AreCounted (path_of c.args.path.now)) _ _ docs docs c.in_err-taken.field-0.0 (c.in_err-taken.ensures.reads clean docs are))

pub returns-clause-reads : goal.returns-clause-reads
returns-clause-reads g c clean docs are = answered_as _ (AreCounted (path_of c.args.path.now)) _ _ docs docs c.in_ok-taken.taken c.into_counted.result (λ ds t. subst (λ p. AreCounted p c.into_counted.result ds) (t.0 ∙ c.new.ensures.path) (c.into_counted.ensures ds t.1)) (c.in_ok-taken.ensures.reads clean docs are)

use Rattle.std.proofs.Common.{◌∙◌, subst}
use Rattle.std.proofs.lemmas.Result.{err_from_is_err_and}
use Rattle.bson_store.proofs.MoveLemmas.{moved}
use Rattle.bson_store.specs.Calls.{store_state}
use Rattle.store_question.specs.Filters.{path_of}
use Rattle.store_asked.proofs.AskLemmas.{drafted_as, drafted_refused}
use Rattle.fallowtime_commands.specs.Asking.{AreCounted}
use Rattle.fallowtime_commands.proofs.session.asking.values_at.Goals as goal

pub returns-in_err-taken-clause-moves : goal.returns-in_err-taken-clause-moves
returns-in_err-taken-clause-moves g c =
    let p = err_from_is_err_and c.from_residual.result c.from_residual.ensures.1 in
    rw (p.1, p.2) (moved (store_state g.S.Store c.args.store.now) (store_state g.S.Store c.take_drafted.new.store) _ _ c.in_err-taken.ensures.moves (λ docs after h. drafted_refused _ (AreCounted (path_of c.args.path.now)) _ _ _ docs after c.in_err-taken.field-0.0 h))

pub returns-clause-moves : goal.returns-clause-moves
returns-clause-moves g c =
    moved (store_state g.S.Store c.args.store.now) (store_state g.S.Store c.take_drafted.new.store) _ _ c.in_ok-taken.ensures.moves
    (λ docs after h. drafted_as _ (AreCounted (path_of c.args.path.now)) _ _ _ docs after c.in_ok-taken.taken c.into_counted.result (λ ds t. subst (λ p. AreCounted p c.into_counted.result ds) (t.0 ∙ c.new-values.ensures.path) (c.into_counted.ensures ds t.1)) h)

use Rattle.std.proofs.Common.{sym, subst, ap}
use Rattle.std.proofs.lemmas.Result.{err_from_is_err_and}
use Rattle.bson_base.specs.Value.{document}
use Rattle.bson_store.proofs.MoveLemmas.{moved}
use Rattle.bson_store.specs.Calls.{store_state}
use Rattle.bson_store.specs.Fronts.{LiesInAll}
use Rattle.store_model.specs.Filter.{Selects}
use Rattle.store_asked.specs.Keeps.{TookFirst}
use Rattle.store_asked.specs.declared.answering.Answering.{Answering}
use Rattle.store_asked.specs.declared.first.First.{First}
use Rattle.store_asked.proofs.NearLemmas.{near_refused, near_taken}
use Rattle.store_asked.proofs.nearing.take_near.Goals as goal

pub returns-in_err-taken-clause-moves : goal.returns-in_err-taken-clause-moves
returns-in_err-taken-clause-moves g c =
    let p = err_from_is_err_and c.from_residual.result c.from_residual.ensures.1 in
    let first : Answering First = record { alloc = c.args.alloc; question = c.args.question; taker = c.args.first } in
    rw (p.1, p.2) (moved (store_state g.S.Store c.args.store.now) (store_state g.S.Store c.take_passing-outcome.new.self) _ _ c.in_err-taken.ensures.moves
    (λ docs after h. near_refused (λ (f g : First) ds. TookFirst f.top g.top ds) first _ c.args.range.now (λ d none lies. none (subst (λ f. Selects f (document d)) (sym c.select_all-everything.ensures) tt, subst (λ rs. LiesInAll rs d) (sym c.from_ref.ensures.value) (lies, tt))) c.args.name.now docs after c.in_err-taken.field-0.0 h))

pub returns-clause-moves : goal.returns-clause-moves
returns-clause-moves g c =
    let first : Answering First = record { alloc = c.args.alloc; question = c.args.question; taker = c.args.first } in
    moved (store_state g.S.Store c.args.store.now) (store_state g.S.Store c.take_passing-outcome.new.self) _ _ c.in_ok-taken.ensures.moves
    (λ docs after h. near_taken (λ (f g : First) ds. TookFirst f.top g.top ds) first _ c.args.range.now (λ d none lies. none (subst (λ f. Selects f (document d)) (sym c.select_all-everything.ensures) tt, subst (λ rs. LiesInAll rs d) (sym c.from_ref.ensures.value) (lies, tt))) c.args.name.now docs after c.in_ok-taken.taken h)

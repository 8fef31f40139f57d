use Rattle.std.proofs.Common.{[], ◌∷◌, ◌++◌, refl, subst, ◌∙◌}
use Rattle.std.proofs.lemmas.Result.{err_from_is_err_and}
use Rattle.store_model.specs.declared.error.ErrorKind.TheVariants.{Memory}
use Rattle.store_model.specs.Refusal.{refusal}
use Rattle.store_model.specs.Reading.{ReadsTree}
use Rattle.store_documents.specs.Judging.{AnswersRow}
use Rattle.store_documents.proofs.LoadLemmas.{refused, taken, wanted}
use Rattle.store_documents.proofs.loading.keep.Goals as goal

pub returns-in_err-push-in-Ok : goal.returns-in_err-push-in-Ok
returns-in_err-push-in-Ok c j a js h =
    let p = err_from_is_err_and c.from_residual.result c.from_residual.ensures.1 in
    rw (p.1, p.2) (λ more. wanted (js ++ j ∷ []) more (refusal Memory) refl)

pub returns-in_ok-push-in-Ok : goal.returns-in_ok-push-in-Ok
returns-in_ok-push-in-Ok c j a js h = taken js j c.args.rows.now c.push.new.self c.in-Ok.row h (subst (AnswersRow (ReadsTree j)) c.in-Ok.is a) c.in_ok-push-in-Ok.ensures.items

pub returns-in-Err : goal.returns-in-Err
returns-in-Err c j a js h = refused js j c.args.rows.now c.in-Err.kind c.len.result c.at.result h (subst (AnswersRow (ReadsTree j)) c.in-Err.is a) (c.len.ensures ∙ c.args.rows.now.ok.0) c.at.ensures

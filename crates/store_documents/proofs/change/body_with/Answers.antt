use Rattle.std.proofs.Common.{inr, ap, ◌∙◌, subst}
use Rattle.std.proofs.lemmas.Result.{err_from_is_err_and}
use Rattle.bson_base.specs.Value.{put}
use Rattle.bson_meaning.specs.Meaning.{norm_in_order}
use Rattle.bson_model.specs.View.{view}
use Rattle.store_documents.specs.Bodies.{AnswersChanged}
use Rattle.store_documents.proofs.ChangeLemmas.{known}
use Rattle.store_documents.proofs.KindLemmas.{of_changed}
use Rattle.store_documents.proofs.change.body_with.Goals as goal

pub returns-in_err-document-clause-changed : goal.returns-in_err-document-clause-changed
returns-in_err-document-clause-changed c = λ d kept is.
    let p = err_from_is_err_and c.from_residual.result c.from_residual.ensures.1 in
    rw (p.1, p.2) (inr (c.in_err-document.ensures.read d kept is))

pub returns-in-Ok-clause-changed : goal.returns-in-Ok-clause-changed
returns-in-Ok-clause-changed c = λ d kept is.
    let same = c.in_ok-document.ensures.read d kept is in
    subst (λ e. AnswersChanged e c.changed_body.result) (c.in-Ok.ensures.put ∙ ap (put c.args.key.now (norm_in_order (view c.args.value))) same) c.changed_body.ensures

pub returns-in-Ok-clause-sound : goal.returns-in-Ok-clause-sound
returns-in-Ok-clause-sound c = known c.changed_body.result c.in-Ok.ensures.sound

pub returns-in-Ok-clause-kind : goal.returns-in-Ok-clause-kind
returns-in-Ok-clause-kind c = of_changed _ c.changed_body.result c.changed_body.ensures

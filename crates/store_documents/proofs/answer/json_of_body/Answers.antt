use Rattle.std.proofs.Common.{inr, subst}
use Rattle.std.proofs.lemmas.Result.{err_from_is_err_and}
use Rattle.store_model.specs.State.{json_of}
use Rattle.bson_model.specs.View.{content}
use Rattle.store_documents.proofs.KindLemmas.{of_json}
use Rattle.store_documents.specs.Answers.{AnswersJson}
use Rattle.store_documents.proofs.answer.json_of_body.Goals as goal

pub returns-in_err-document-clause-tree : goal.returns-in_err-document-clause-tree
returns-in_err-document-clause-tree c = λ d kept is.
    let p = err_from_is_err_and c.from_residual.result c.from_residual.ensures.1 in
    rw (p.1, p.2) (inr (c.in_err-document.ensures.read d kept is))

pub returns-clause-tree : goal.returns-clause-tree
returns-clause-tree c = λ d kept is.
    let same = c.in_ok-document.ensures.read d kept is in
    subst (λ e. AnswersJson (json_of c.args.mode e) c.json_of_document.result) same c.json_of_document.ensures

pub returns-clause-kind : goal.returns-clause-kind
returns-clause-kind c = of_json c.args.mode (content c.in_ok-document.document) c.json_of_document.result c.json_of_document.ensures

use Rattle.std.proofs.Common.{ap, sym, subst, ◌∙◌, IfOk, Some}
use Rattle.bson_model.specs.View.{content, view}
use Rattle.bson_model.proofs.ViewLemmas.{view-Document}
use Rattle.fallowtime_statements.specs.Lines.{IsGiven}
use Rattle.fallowtime_statements.proofs.lines.copy_of_value.Goals as goal

pub returns-in-Document : goal.returns-in-Document
returns-in-Document c =
    subst (λ v. IfOk c.copy_of_document.result (λ d. IsGiven (Some v) (content d))) (sym (view-Document c.in-Document.document) ∙ ap view (sym c.in-Document.is)) c.copy_of_document.ensures

use Rattle.std.proofs.Common.{ap, sym, subst, ◌∙◌, IfOk}
use Rattle.bson_model.specs.View.{view}
use Rattle.bson_model.proofs.ViewLemmas.{view-Document}
use Rattle.fallowtime_statements.specs.Counting.{IsGroupIn}
use Rattle.fallowtime_statements.proofs.counting.group_in.Goals as goal

pub returns-in-Document : goal.returns-in-Document
returns-in-Document c =
    subst (λ v. IfOk c.id_in.result (λ id. IsGroupIn v (view id))) (sym (view-Document c.in-Document.group) ∙ ap view (sym c.in-Document.is)) c.id_in.ensures

use Rattle.std.proofs.Common.{ap, sym, ◌∙◌}
use Rattle.bson_model.specs.View.{pairs_of, view}
use Rattle.bson_model.proofs.ViewLemmas.{view-Array, view-Document}
use Rattle.fallowtime_statements.specs.Fields.{is_empty}
use Rattle.fallowtime_statements.proofs.ValueLemmas.{empty_array, empty_document}
use Rattle.fallowtime_statements.proofs.fields.is_empty.Goals as goal

pub returns-in-Document : goal.returns-in-Document
returns-in-Document c =
    let d = c.in-Document.document in
    empty_document c.is_empty.result (pairs_of d) c.is_empty.ensures ∙ ap is_empty (sym (view-Document d) ∙ ap view (sym c.in-Document.is))

pub returns-in-Array : goal.returns-in-Array
returns-in-Array c =
    let v = c.in-Array.items in
    c.is_empty-in-Array.ensures ∙ empty_array _ v.items v.ok.0 ∙ ap is_empty (sym (view-Array v) ∙ ap view (sym c.in-Array.is))

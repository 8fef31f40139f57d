use Rattle.std.proofs.Common.{map, sym, ap, ◌∙◌}
use Rattle.std.specs.List.{zip}
use Rattle.std.specs.Map.{keys_of, values_of}
use Rattle.bson_base.specs.Value.{scoped_code}
use Rattle.bson_model.specs.View.{view, members_of}
use Rattle.bson_pairs.proofs.KeyedLemmas.{over, over-zip, zip-split}
use Rattle.bson_model.proofs.ViewLemmas.{view-WithScope}
use Rattle.bson_model.proofs.copy.+copy.Goals as goal

pub copy_document-returns : goal.copy_document-returns
copy_document-returns t c =
    let ps = c.args.document.now.pairs in
    ap (over view) c.in_ok-pairs.ensures ∙ over-zip view (keys_of ps) c.in_ok-values.values.items
    ∙ ap (zip (keys_of ps)) (c.in_ok-values.ensures ∙ ap (map view) c.values.ensures) ∙ sym (over-zip view (keys_of ps) (values_of ps)) ∙ ap (over view) (zip-split ps)

pub copy_value-returns-in_ok-code-in-JavaScriptCodeWithScope : goal.copy_value-returns-in_ok-code-in-JavaScriptCodeWithScope
copy_value-returns-in_ok-code-in-JavaScriptCodeWithScope t c =
    let old = c.in-JavaScriptCodeWithScope.code in
    let code = c.in_ok-code-in-JavaScriptCodeWithScope in
    let scope = c.in_ok-scope-in-JavaScriptCodeWithScope in
    view-WithScope (record { code = code.code; scope = scope.scope }) ∙ (λ j. scoped_code (code.ensures.cases j) (members_of (scope.ensures j)))
    ∙ sym (view-WithScope old) ∙ ap view (sym c.in-JavaScriptCodeWithScope.is)

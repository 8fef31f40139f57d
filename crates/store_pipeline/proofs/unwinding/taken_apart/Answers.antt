use Rattle.std.proofs.Common.{◌≡◌, ◌∷◌, Some, None, IfOk, map, ap, sym, subst, ◌∙◌}
use Rattle.std.proofs.lemmas.List.{nil_from_length}
use Rattle.bson_base.specs.Value.{document}
use Rattle.bson_model.specs.View.{content, view}
use Rattle.store_update.specs.Plan.{path_of}
use Rattle.store_update.specs.Update.{found}
use Rattle.store_pipeline.specs.Unwound.{found_in}
use Rattle.store_pipeline.proofs.UnwindLemmas.{at_once, found_there, taken_at}
use Rattle.store_pipeline.proofs.unwinding.taken_apart.Goals as goal

pub returns-in_default : goal.returns-in_default
returns-in_default c =
    let u = c.args.unwinding.now in
    let d = content c.args.document.now in
    let none = ap path_of (sym c.as_slice.ensures.value ∙ nil_from_length c.as_slice.result.now c.in_default.ensures.cases) in
    subst (λ es. IfOk c.if_any.result (λ made. map content made.items ≡ es)) (at_once u.keeps (path_of u.path.items) d none) c.if_any.ensures

pub returns-in-Some-value_at : goal.returns-in-Some-value_at
returns-in-Some-value_at c =
    let u = c.args.unwinding.now in
    let d = content c.args.document.now in
    let p = path_of u.path.items in
    let path = ap (λ k. k ∷ path_of c.in-Some.rest.now) c.as_str.ensures.value ∙ ap path_of (sym c.in-Some.ensures.cases.0 ∙ c.as_slice.ensures.value) in
    let there = c.in-Some-value_at.ensures ∙ ap (λ q. found_in (found q (Some (document d)))) path in
    subst (λ es. IfOk c.opened.result (λ made. map content made.items ≡ es)) (taken_at u d (Some (view c.in-Some-value_at.value.now)) there)
    (c.opened.ensures (found_there (found p (Some (document d))) (view c.in-Some-value_at.value.now) there))

pub returns-in-None : goal.returns-in-None
returns-in-None c =
    let u = c.args.unwinding.now in
    let d = content c.args.document.now in
    let path = ap (λ k. k ∷ path_of c.in-Some.rest.now) c.as_str.ensures.value ∙ ap path_of (sym c.in-Some.ensures.cases.0 ∙ c.as_slice.ensures.value) in
    subst (λ es. IfOk c.if_any-in-None.result (λ made. map content made.items ≡ es)) (taken_at u d None (c.in-None.ensures ∙ ap (λ q. found_in (found q (Some (document d)))) path)) c.if_any-in-None.ensures

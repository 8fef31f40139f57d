use Rattle.std.proofs.Common.{◌≡◌, Ok, Some, IfOk, map, ap, sym, subst, ◌∙◌}
use Rattle.bson_base.specs.Value.{array}
use Rattle.bson_model.specs.View.{content, items_of, view}
use Rattle.store_update.specs.Plan.{path_of}
use Rattle.store_pipeline.specs.Unwound.{if_kept, opened_array}
use Rattle.store_pipeline.proofs.UnwindLemmas.{array_opened, else_opened}
use Rattle.store_pipeline.proofs.unwinding.opened.Goals as goal

pub returns-in-Some : goal.returns-in-Some
returns-in-Some c =
    let u = c.args.unwinding.now in
    let p = path_of u.path.items in
    let d = content c.args.document.now in
    let vs = ap (λ items. items_of (map view items)) c.as_slice.ensures.value in
    array_opened u.keeps p d (λ es. IfOk c.opened_array.result (λ made. map content made.items ≡ es)) (view c.args.value.now) (items_of (map view c.in-Some.items.now.items)) c.in-Some.ensures
    (λ there. subst (λ us. IfOk c.opened_array.result (λ made. map content made.items ≡ opened_array u.keeps p d us)) vs (c.opened_array.ensures (there ∙ ap (λ us. Ok (Some (array us))) (sym vs))))

pub returns-in-None : goal.returns-in-None
returns-in-None c = λ there.
    let u = c.args.unwinding.now in
    let p = path_of u.path.items in
    let d = content c.args.document.now in
    subst (λ es. IfOk c.if_any.result (λ made. map content made.items ≡ es)) (ap (λ keeps. if_kept keeps d) c.stays.ensures ∙ sym (else_opened u.keeps p d (view c.args.value.now) c.in-None.ensures)) c.if_any.ensures

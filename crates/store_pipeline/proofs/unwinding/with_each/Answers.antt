use Rattle.std.proofs.Common.{take_all, [], ◌∷◌, ◌∙◌, Some, map, ap, arith}
use Rattle.std.proofs.lemmas.List.{map-append}
use Rattle.bson_model.specs.View.{content, view}
use Rattle.store_update.specs.Plan.{path_of}
use Rattle.store_pipeline.specs.Unwound.{with_at}
use Rattle.store_pipeline.proofs.EachLemmas.{map_more, map_through}
use Rattle.store_pipeline.proofs.unwinding.with_each.Goals as goal

pub loop-value-preserved : goal.loop-value-preserved
loop-value-preserved c =
    let made = c.in_ok-with_value.field-0 in
    ap (map content) c.in_ok-push.ensures.items ∙ map-append content c.loop-value.made.items (made ∷ [])
    ∙ map_more (λ v. with_at (path_of c.args.path.now) (content c.args.document.now) (Some (view v))) c.loop-value.value-index c.args.values.now c.value-item.result (map content c.loop-value.made.items) (content made) (omega (arith, c.loop-value-test.true, c.loop-value.auto.value-index-end)) c.value-item.is c.in_ok-with_value.ensures c.loop-value.invariant

pub returns : goal.returns
returns c =
    c.loop-value.invariant
    ∙ ap (map (λ x. with_at (path_of c.args.path.now) (content c.args.document.now) (Some (view x)))) (take_all c.loop-value.value-index c.args.values.now (omega (arith, c.loop-value-test.false, c.loop-value.auto.value-index-end)))
    ∙ map_through view (λ v. with_at (path_of c.args.path.now) (content c.args.document.now) (Some v)) c.args.values.now

use Rattle.std.proofs.Common.{Some, None, map, ap, ◌∙◌}
use Rattle.std.proofs.lemmas.Result.{IfOk-weaker}
use Rattle.bson_model.specs.declared.bson.Bson as bson
use Rattle.bson_model.specs.View.{content, view}
use Rattle.store_update.specs.Plan.{path_of}
use Rattle.store_pipeline.specs.Unwound.{with_at}
use Rattle.store_pipeline.proofs.EachLemmas.{none_in, some_in, some_mapped}
use Rattle.store_pipeline.proofs.UnwindLemmas.{full_opened, none_opened}
use Rattle.store_pipeline.proofs.unwinding.opened_array.Goals as goal

pub returns-then-is_empty : goal.returns-then-is_empty
returns-then-is_empty c = λ there.
    let u = c.args.unwinding.now in
    let p = path_of u.path.items in
    let d = content c.args.document.now in
    let base = content c.in_ok-without.without in
    let items = c.args.items.now in
    IfOk-weaker c.if_any.result _ _
    (λ made is. is ∙ none_opened u.keeps p d base (map view items) (c.in_ok-without.ensures ∙ ap (λ keys. with_at (path_of keys) d None) c.as_slice-path.ensures.value) (ap (map view) (none_in items c.is_empty.result c.is_empty.ensures c.if-is_empty.true))) c.if_any.ensures

pub returns : goal.returns
returns c = λ there.
    let u = c.args.unwinding.now in
    let p = path_of u.path.items in
    let d = content c.args.document.now in
    let base = content c.in_ok-emptied.emptied in
    let items = c.args.items.now in
    let same = c.in_ok-emptied.ensures ∙ ap (λ keys. with_at (path_of keys) d (Some (view bson.Null))) c.as_slice-path.ensures.value in
    IfOk-weaker c.with_each.result _ _
    (λ made is. is ∙ ap (λ keys. map (λ v. with_at (path_of keys) base (Some v)) (map view items)) c.as_slice-path.ensures.value ∙ full_opened u.keeps p d _ (view bson.Null) base (map view items) there same (some_mapped view items (some_in items c.is_empty.result c.is_empty.ensures c.if-is_empty.false))) c.with_each.ensures
